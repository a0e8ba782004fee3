use Rattle.std.proofs.Common.{◌≡◌, ◌≤◌, false, true, List, [], ◌∷◌, length, map, subst, arith}
use Rattle.std.specs.Prelude.{◌↔◌}
use Rattle.std.proofs.lemmas.Bool.{false≢true}
use Rattle.std.proofs.lemmas.List.{drop_all}
use Rattle.sedck_expressions.specs.Tree.{trees}
use Rattle.sedck_expressions.specs.View.{tree}
use Rattle.sedck_expressions.specs.declared.tree.Bre.{Bre}
use Rattle.sedck_plain.proofs.same.+same.Goals as goal

-- no trees are the same as some
longer : {A : Type 0} (done rest : List Bre) → done ≡ [] → 1 ≤ length rest → (A ↔ (trees (map tree done) ≡ trees (map tree rest)))
    → (false ≡ true → A) × (A → false ≡ true)
longer done [] none some same = absurd (omega (arith, some))
longer done (t ∷ rest) none some same = (
  (λ h. absurd (false≢true h)),
  (λ a. absurd (cc (subst (λ d. trees (map tree d) ≡ trees (map tree (t ∷ rest))) none (same.0 a)))),
)

pub same_trees-returns-in_default-matches : goal.same_trees-returns-in_default-matches
same_trees-returns-in_default-matches t c =
    longer _ _ (drop_all c.loop-item.item-index c.args.one.now c.loop-item-test.false) c.in_default-matches.len_at_least c.loop-item.invariant
