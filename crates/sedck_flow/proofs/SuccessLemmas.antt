-- The least rest of a match, from what a script and its substitutions know.
use Rattle.sedck_flow.proofs.Common.{◌≡◌, ℕ, ◌<◌, length, refl, sym, ap, subst, inl, inr, arith, Option, Some, None, Tree, Groups, no_groups, Match, texts_length, IsLeastRest, IsWellFormed, least_rest_of, Pattern, Previous, Expression, Substitution, Program, expressions, named_groups, AreTopGroups, KeepsGroups, StandsFor, AreRestsAtLeast, IsFormed, IsLeastSize, HasRest, IsLeastOutside, IsOutside, AreRestsAbove, IsLeastOfRests}
use Rattle.std.proofs.Math.Logic.{∥∥₁_elim}
use Rattle.std.proofs.Math.Bridge.{le_prop}
use Rattle.sedck_script.specs.Shortest.{SomeHasLength}
use Rattle.sedck_flow.proofs.ExpressionPatterns.{expressions_are_patterns}
use Rattle.sedck_flow.proofs.References.{keeps_groups_or_not, different_groups, no_groups_of_previous}

-- ---- The least rest

-- by the least length of the script's expressions, where the replacement names no group
pub least_of_previous : (p : Program) (s : Substitution) (n : ℕ) → s.pattern ≡ Previous → KeepsGroups s.pattern s.parts
    → IsLeastSize (SomeHasLength (expressions p.commands)) n → IsLeastOfRests p s n
least_of_previous p s n previous keeps least = record { floor = floor; met = met; capped = least.capped }
  where
    none : (groups : Groups) → texts_length groups (named_groups s.parts) ≡ 0
    none groups =
        let top = subst (λ (x : Pattern). AreTopGroups x (named_groups s.parts)) previous keeps.top in
        ap (texts_length groups) (no_groups_of_previous (named_groups s.parts) top)

    floor : AreRestsAtLeast p s n
    floor tree text groups is m =
        let known = (expressions_are_patterns p.commands tree).1 (subst (λ (x : Pattern). StandsFor p x tree) previous is) in
        omega (arith, none groups, least.floor (length text) (tree, known, (text, (groups, m), refl)))

    met : n < 16777215 → ¬ AreRestsAbove p s n
    met below all =
        let shortest = least.met below in
        let is = subst (λ (x : Pattern). StandsFor p x shortest.0) (sym previous) ((expressions_are_patterns p.commands shortest.0).0 shortest.1) in
        let groups = shortest.2.1.0 in
        omega (arith, all shortest.0 shortest.2.0 groups is shortest.2.1.1, none groups, shortest.2.2)

-- by the least rest of the command's own expression
pub least_of_own : (p : Program) (s : Substitution) (own : Tree) (n : ℕ) → s.pattern ≡ Expression own → KeepsGroups s.pattern s.parts → IsWellFormed own
    → IsLeastSize (HasRest own (named_groups s.parts)) n → IsLeastOfRests p s n
least_of_own p s own n is_own keeps formed least = record { floor = floor; met = met; capped = least.capped }
  where
    rests : (l : ℕ) × IsLeastRest own (named_groups s.parts) l
    rests =
        let top = subst (λ (x : Pattern). AreTopGroups x (named_groups s.parts)) is_own keeps.top in
        least_rest_of own formed (named_groups s.parts) (different_groups own (named_groups s.parts) keeps.distinct top)

    floor : AreRestsAtLeast p s n
    floor tree text groups is m =
        let same : tree ≡ own = subst (λ (x : Pattern). StandsFor p x tree) is_own is in
        let mine = subst (λ (v : Tree). Match v no_groups text groups) same m in
        let rest = rests.1.floor text groups mine in
        omega (arith, rest.1, least.floor rest.0 (text, groups, mine, rest.1))

    met : n < 16777215 → ¬ AreRestsAbove p s n
    met below all =
        let shortest = least.met below in
        let is = subst (λ (x : Pattern). StandsFor p x own) (sym is_own) refl in
        omega (arith, all own shortest.0 shortest.1 is shortest.2, shortest.3)

-- ---- What a substitution knows of its matches

module _ (s : Substitution) (outside : Option ℕ) (known : ∥ IsOutside s.pattern s.parts outside ∥₁) where
  pub not_kept : outside ≡ None → ¬ KeepsGroups s.pattern s.parts
  not_kept none keeps = ∥∥₁_elim known (λ x y. absurd x) (λ is. subst (IsOutside s.pattern s.parts) none is keeps)

  pub kept : (n : ℕ) → outside ≡ Some n → KeepsGroups s.pattern s.parts
  kept n some =
      elim (keeps_groups_or_not s.pattern s.parts) [
        | inl keeps ↦ keeps
        | inr fails ↦ absurd (∥∥₁_elim known (λ x y. absurd x) (λ is. fails (subst (IsOutside s.pattern s.parts) some is).0))
      ]

  -- the number that it knows is the least rest, where it has an expression of its own
  pub known_rest : (p : Program) (own : Tree) (n : ℕ) → outside ≡ Some n → s.pattern ≡ Expression own → IsFormed s.pattern → IsLeastOfRests p s n
  known_rest p own n some is_own formed = record {
    floor = λ tree text groups is m. ∥∥₁_elim known le_prop (λ o. (least_rest o).floor tree text groups is m);
    met = λ below all. ∥∥₁_elim known (λ x y. absurd x) (λ o. (least_rest o).met below all);
    capped = ∥∥₁_elim known le_prop (λ o. (least_rest o).capped);
  }
    where
      least_rest : IsOutside s.pattern s.parts outside → IsLeastOfRests p s n
      least_rest is =
          let here = subst (IsOutside s.pattern s.parts) some is in
          least_of_own p s own n is_own here.0 (subst IsFormed is_own formed)
          (subst (λ (x : Pattern). IsLeastOutside x (named_groups s.parts) n) is_own here.1)
