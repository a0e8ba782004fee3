use Rattle.sedck_model.proofs.Common.{◌≡◌, List, ℕ, Option, refl, sym, ap, ◌∙◌, subst, inl, inr, Tree, tree, Bre, tree-Any, Spot, Relation, IsNext, Consumes, Passes}
use Rattle.sedck_expressions.specs.View.{bytes_in}
use Rattle.sedck_model.proofs.ViewLemmas.{tree-Byte, tree-Set, tree-Maybe}
use Rattle.sedck_expressions.specs.Tree as spec
use Rattle.sedck_model.proofs.single.next.Goals as goal

passes : (text : List ℕ) (s : Spot) (next : Option Spot) (e : Bre) (t : Tree) → tree e ≡ t → Passes t ≡ Consumes t → IsNext (Consumes (tree e)) text s next
    → IsNext (Passes (tree e)) text s next
passes text s next e t is same h =
    let both : Consumes (tree e) ≡ Passes (tree e) = subst (λ (u : Tree). Consumes u ≡ Passes u) (sym is) (sym same) in
    subst (λ (r : Relation). IsNext r text s next) both h

pub returns-in-Byte : goal.returns-in-Byte
returns-in-Byte c =
    let text = c.args.text.now in
    let s = c.args.spot.now in
    let e = c.args.expression.now in
    let next = c.after_byte.result in
    let h = c.after_byte.ensures in
    elim c.in-Byte.is [
      | inl (b, is) ↦ passes text s next e (spec.Byte b) (ap tree is ∙ tree-Byte b) refl h
      | inr (inl is) ↦ passes text s next e spec.Any (ap tree is ∙ tree-Any) refl h
      | inr (inr (inl (set, is))) ↦ passes text s next e (spec.Set (bytes_in set.0)) (ap tree is ∙ tree-Set set) refl h
      | inr (inr (inr (b, is))) ↦ passes text s next e (spec.Maybe b) (ap tree is ∙ tree-Maybe b) refl h
    ]
