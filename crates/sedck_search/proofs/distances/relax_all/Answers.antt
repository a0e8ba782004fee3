use Rattle.sedck_search.proofs.Common.{◌≡◌, ◌<◌, ◌≤◌, ◌+◌, ℕ, List, Bool, true, false, length, sym, ap, ◌∙◌, subst, inl, inr, arith, cases_lt, true≢false, node_index, IsSettled}
use Rattle.sedck_search.specs.Private.Distances.{total}
use Rattle.sedck_search.proofs.distances.relax_all.Goals as goal
use Rattle.sedck_search.proofs.distances.relax_all.Goals.{then-relax_at, else-relax_at}

pub relax_at-requires-clause-some : goal.relax_at-requires-clause-some
relax_at-requires-clause-some c = c.loop-step.invariant.some

-- the distances have not become longer so far
at_most : (shorter : Bool) (distances before : List ℕ) → (shorter ≡ true → total distances < total before) → (shorter ≡ false → distances ≡ before)
    → total distances ≤ total before
at_most shorter distances before less same = grind arith

pub loop-step-preserved : goal.loop-step-preserved
loop-step-preserved c =
    let inv = c.loop-step.invariant in
    elim c.if-relax_at.branch [
      | then-relax_at w ↦ record {
        some = c.relax_at.ensures.some;
        shorter = λ _. omega (
          arith,
          c.relax_at.ensures.shorter w.if-relax_at.true,
          at_most c.loop-step.shorter c.loop-step.distances c.args.distances.now inv.shorter inv.same,
        );
        same = λ is. absurd (true≢false (sym w.shorter-is ∙ is));
        settled = λ is. absurd (true≢false (sym w.shorter-is ∙ is));
      }
      | else-relax_at w ↦
          let unchanged = c.relax_at.ensures.same w.if-relax_at.false in
          record {
            some = c.relax_at.ensures.some;
            shorter = λ is. omega (arith, ap total unchanged, inv.shorter (sym w.shorter-is ∙ is));
            same = λ is. unchanged ∙ inv.same (sym w.shorter-is ∙ is);
            settled = λ is n reached above. elim (cases_lt (node_index n + c.loop-step.step) (length c.args.distances.now)) [
              | inl less ↦ subst (λ distances. IsSettled c.args.graph.script.now c.args.graph.filter distances n) (inv.same (sym w.shorter-is ∙ is))
                  (c.relax_at.ensures.settled w.if-relax_at.false n reached (omega (arith, less, above, inv.some.long, c.requires.some.long)))
              | inr more ↦ inv.settled (sym w.shorter-is ∙ is) n reached more
            ];
          }
    ]

pub returns-clause-settled : goal.returns-clause-settled
returns-clause-settled c = λ is n reached.
    let inv = c.loop-step.invariant in
    subst (λ distances. IsSettled c.args.graph.script.now c.args.graph.filter distances n) (sym (inv.same is))
    (inv.settled is n reached (omega (arith, c.loop-step-test.false)))
