use Rattle.sedck_explanation.proofs.Common.{◌≡◌, ◌∙◌, ◌++◌, List, length, refl, ap, sym, subst, Finding, AreReported}
use Rattle.std.proofs.Common.{rules}
use Rattle.std.proofs.lemmas.Iterator.Consumers.{YieldsList-end}
use Rattle.std.proofs.lemmas.Iterator.Adapters.{YieldsList-from_vec}
use Rattle.std.proofs.lemmas.List.Folds.{map_fixed}
use Rattle.sedck_explanation.proofs.Reports.{more_error, more_warning, more_note, more_ignored, sorted_reports}
use Rattle.sedck_explanation.proofs.reporting.reported.Goals as goal

pub loop-finding-preserved-then-is_ignored : goal.loop-finding-preserved-then-is_ignored
loop-finding-preserved-then-is_ignored c =
    more_ignored _ _ _ _ _ _ _ c.is_ignored.result c.if-is_ignored.true c.is_ignored.ensures.error c.is_ignored.ensures.locale c.is_ignored.ensures.denied
    c.loop-finding.invariant

pub loop-finding-preserved-in-Continue-1 : goal.loop-finding-preserved-in-Continue-1
loop-finding-preserved-in-Continue-1 c =
    more_error _ _ _ _ _ _ _ _ _ c.with_end-finding.ensures.level c.with_end-finding.ensures.head c.with_end-finding.ensures.range c.in-Error.is
    c.in_ok-push-in-Error.ensures.items c.loop-finding.invariant

pub loop-finding-preserved-in-Continue-branch-2 : goal.loop-finding-preserved-in-Continue-branch-2
loop-finding-preserved-in-Continue-branch-2 c =
    more_warning _ _ _ _ _ _ _ _ _ c.with_end-finding.ensures.level c.with_end-finding.ensures.head c.with_end-finding.ensures.range c.in-Warning.is
    c.in_ok-push-in-Warning.ensures.items c.loop-finding.invariant

pub loop-finding-preserved : goal.loop-finding-preserved
loop-finding-preserved c =
    more_note _ _ _ _ _ _ _ _ _ c.with_end-finding.ensures.level c.with_end-finding.ensures.range c.in-Note.is
    c.in_ok-push-in-Note.ensures.items c.loop-finding.invariant

pub returns : goal.returns
returns c =
    let came = c.into_iter-finding-iterator.ensures.into_iter_gives in
    let count : c.into_iter-finding-iterator.result.rest.len ≡ length c.args.findings.items = search rules in
    let all = YieldsList-end (YieldsList-from_vec {s = c.into_iter-finding-iterator.result} c.args.findings.items came.0 count)
    c.loop-finding.yielded c.loop-finding.finding-iterator c.loop-finding.yielded_by c.next.result c.next.new.self c.in-None.is c.next.ensures.steps in
    let found : c.loop-finding.yielded ≡ c.args.findings.items = sym (map_fixed (λ (y : Finding). y) c.loop-finding.yielded (λ k d less. refl)) ∙ all.0 in
    let items : c.append-2.new.self.items ≡ c.loop-finding.errors.items ++ (c.loop-finding.warnings.items ++ c.loop-finding.notes.items) =
    c.in_ok-append-2.ensures.items ∙ ap (λ (t : List Finding). c.loop-finding.errors.items ++ t) c.in_ok-append.ensures.items in
    subst (λ (t : List Finding). AreReported c.args.text.now c.args.silence.denied t c.append-2.new.self.items) found
    (sorted_reports _ _ _ _ _ _ _ items c.loop-finding.invariant)
