use Rattle.sedck_bre.proofs.Common.{◌≡◌, ℕ, true, min, map, sym, ap, subst, ◌∙◌, false≢true, trees, tree, IsWellFormed, cap, IsLeastSize, HasLength, no_bounds, outside, names, is_top_group, tree-Seq}
use Rattle.sedck_bre.proofs.TopGroup.{no_list}
use Rattle.sedck_bre.proofs.DifferentGroups.{least-outside, least-alone, least-whole, none-by-zero}
use Rattle.sedck_bre.proofs.expression.Expr.least_outside.Goals as goal

pub returns-in-Seq-clause-least : goal.returns-in-Seq-clause-least
returns-in-Seq-clause-least c =
    let shape = sym c.self.view_is ∙ ap tree c.in-Seq.is ∙ tree-Seq c.in-Seq.items in
    least-outside c.args.self.now (trees (map tree c.in-Seq.items.items)) c.args.groups c.least_outside_of.result shape
    (subst IsWellFormed c.self.view_is c.self.invariant.0) c.requires
    (c.least_outside_of.ensures ∙ ap (λ xs. min (outside c.args.groups no_bounds (trees (map tree xs))) cap) c.deref.ensures.value)

pub returns-in-Seq-clause-whole : goal.returns-in-Seq-clause-whole
returns-in-Seq-clause-whole c zero =
    least-whole c.args.self.now c.args.groups c.least_outside_of.result (none-by-zero c.args.groups zero) (returns-in-Seq-clause-least c)

pub returns-in_default-clause-least : goal.returns-in_default-clause-least
returns-in_default-clause-least c =
    let none : (k : ℕ) → names c.args.groups k ≡ true → ⊥ = λ k named.
    false≢true (sym (no_list c.self.inside.body c.in_default.not-Seq k) ∙ ap (λ t. is_top_group t k) c.self.view_is ∙ (c.requires k named).2) in
    least-alone c.args.self.now c.args.groups c.self.inside.least none
    (subst (λ t. IsLeastSize (HasLength t) c.self.inside.least) c.self.view_is c.self.invariant.2)
