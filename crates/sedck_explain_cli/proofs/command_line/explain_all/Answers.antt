use Rattle.sedck_explain_cli.proofs.Common.{◌≡◌, ◌≢◌, ◌∙◌, ◌+◌, map, take, refl, sym, ap, subst, inl, Keeps, worse, Accepted, Misused, Failed, Unknown, IsWorstOf, StatusAt}
use Rattle.std.proofs.KnownBytes.{Keeps-trans}
use Rattle.sedck_explain_cli.proofs.Greatest.{worst_item, worse_has, failed_stays}
use Rattle.sedck_explain_cli.proofs.Spelled.{report_status}
use Rattle.sedck_explain_cli.proofs.command_line.explain_all.Goals as goal
use Rattle.sedck_explain_cli.proofs.command_line.explain_all.Goals.{in-Ok, in-Err+else-not-report_fault}

pub loop-path-preserved : goal.loop-path-preserved
loop-path-preserved g c =
    let before = c.loop-path.invariant in
    let k = g.O.Opener.known c.args.session.now.files.now in
    let request = c.args.session.now.request.now in
    let paths = request.scripts.items in
    let Has = StatusAt k request in
    elim c.match-explain_path.branch [
      | in-Ok w ↦
          let one = w.in-Ok.one in
          let is = ◌∙◌ {c = worse c.loop-path.status one} w.status-is w.worse-status.ensures in
          let not_failed : c.match-explain_path.status ≢ Failed → c.loop-path.status ≢ Failed =
          λ whole failed. whole (is ∙ ap (λ s. worse s one) failed ∙ failed_stays one) in
          record {
            within = λ none. subst (λ s. s ≢ Unknown) (sym is)
                (worse_has (λ s. s ≢ Unknown) c.loop-path.status one (before.within none) (w.in-Ok.ensures.is_explained.few.2 none));
            known = subst (λ s. s ≢ Misused) (sym is)
                (worse_has (λ s. s ≢ Misused) c.loop-path.status one before.known w.in-Ok.ensures.is_explained.few.0);
            greatest = λ whole. subst (IsWorstOf Has Accepted (map (λ path. path.now) (take (c.loop-path.path-index + 1) paths))) (sym is)
                (worst_item Has (λ path. path.now) c.deref-path-items.result.now paths c.loop-path.path-index c.loop-path.status one _
                c.deref-path-items.ensures.value c.loop-path-test.true (before.greatest (not_failed whole))
                (report_status k request _ _ _ one w.in-Ok.ensures));
            silent = λ whole. subst (λ err. Keeps (g.E.Sink.taken c.args.err.now) (g.E.Sink.taken err)) (sym w.err-is)
                (Keeps-trans _ _ _ (before.silent (not_failed whole)) (w.in-Ok.ensures.is_explained.silent (inl refl)));
          }
      | in-Err+else-not-report_fault w ↦ record {
        within = λ none unknown. let clash : Failed ≡ Unknown = sym w.status-is ∙ unknown in cc clash;
        known = λ misused. let clash : Failed ≡ Misused = sym w.status-is ∙ misused in cc clash;
        greatest = λ whole. absurd {A = IsWorstOf Has Accepted (map (λ path. path.now) (take (c.loop-path.path-index + 1) paths)) c.match-explain_path.status} (whole w.status-is);
        silent = λ whole. absurd {A = Keeps (g.E.Sink.taken c.args.err.now) (g.E.Sink.taken c.match-explain_path.err)} (whole w.status-is);
      }
    ]
