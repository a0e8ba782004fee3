-- Bits that name groups of an expression, and one more.
use Rattle.std.proofs.Common.{◌≡◌, ◌≢◌, ℕ, ◌≤◌, ◌^◌, Bool, true, false, ◌==◌, IsTrue, refl, sym, ap, subst, ◌∙◌, arith}
use Rattle.std.specs.Int.RustNames.{bit_or}
use Rattle.std.proofs.lemmas.Bool.Decides.{nat_tests}
use Rattle.sedck_expressions.specs.Tree.{Tree}
use Rattle.sedck_bre.specs.Rests.{names, is_top_group, NamesTopGroups}
use Rattle.sedck_commands.proofs.ReferenceLemmas.{more_other}

pub names_more : (t : Tree) (bits k : ℕ) → NamesTopGroups t bits → 1 ≤ k → k ≤ 9 → IsTrue (is_top_group t k)
    → NamesTopGroups t (bit_or bits (2 ^ k))
names_more t bits k before first last top j named = go (k == j) refl
  where
    go : (b : Bool) → (k == j) ≡ b → (1 ≤ j) × (j ≤ 9) × IsTrue (is_top_group t j)
    go true s =
        let same : k ≡ j = grind (arith, nat_tests) in
        subst (λ i. (1 ≤ i) × (i ≤ 9) × IsTrue (is_top_group t i)) same (first, last, top)
    go false s =
        let other : j ≢ k = λ e. grind (arith, nat_tests, e) in
        before j (sym (more_other bits k j other) ∙ named)
