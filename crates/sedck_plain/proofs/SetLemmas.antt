-- Sets of four words are the same where their bytes are.
use Rattle.std.proofs.Common.{◌≡◌, ℕ, suc, zero, ◌+◌, ◌*◌, ◌/◌, ◌%◌, ◌<◌, Bool, true, List, refl, sym, ap, ◌∙◌, subst, arith}
use Rattle.std.specs.Prelude.{◌==◌, ◌↔◌, nat_eq, slice_index}
use Rattle.std.specs.Cmp.{IsEquivalence}
use Rattle.std.specs.Cmp.Lexicographic.{pointwise, same_text}
use Rattle.std.proofs.lemmas.Cmp.{nat_list_eq_equiv}
use Rattle.std.specs.Int.{bit_at}
use Rattle.std.proofs.lemmas.Bool.{false≢true}
use Rattle.std.proofs.lemmas.Grind.{same_number_lists}
use Rattle.std.proofs.lemmas.Nat.Bits.{bit_at-lt, same_from_bits_below}
use Rattle.sedck_expressions.specs.Tree.{is_in}
use Rattle.sedck_expressions.specs.View.{has_bit, bytes_in}
use Rattle.sedck_expressions.specs.Private.Sets.{AreWords}
use Rattle.sedck_expressions.proofs.BracketSets.{in_where}

bit_same : (x y : ℕ) → x < 2 → y < 2 → (x == 1) ≡ (y == 1) → x ≡ y
bit_same zero zero l m h = refl
bit_same zero (suc zero) l m h = absurd (false≢true h)
bit_same (suc zero) zero l m h = absurd (false≢true (sym h))
bit_same (suc zero) (suc zero) l m h = refl
bit_same zero (suc (suc y)) l m h = absurd (omega arith)
bit_same (suc zero) (suc (suc y)) l m h = absurd (omega arith)
bit_same (suc (suc x)) y l m h = absurd (omega arith)

has_same : (v w : List ℕ) → bytes_in v ≡ bytes_in w → (b : ℕ) → b < 256 → has_bit v b ≡ has_bit w b
unfolding bytes_in
has_same v w h b l = sym (in_where (has_bit v) b l) ∙ (ap (is_in b) h ∙ in_where (has_bit w) b l)

word_same : (v w : List ℕ) → AreWords v → AreWords w → bytes_in v ≡ bytes_in w → (i : ℕ) → i < 4 → slice_index v i ≡ slice_index w i
word_same v w f g h i l =
    same_from_bits_below 64 (slice_index v i) (slice_index w i) (f.1 i 0 (omega (arith, f.0))) (g.1 i 0 (omega (arith, g.0)))
    (λ k less. let at : (64 * i + k) / 64 ≡ i = omega arith in
    let low : (64 * i + k) % 64 ≡ k = omega arith in
    let same : has_bit v (64 * i + k) ≡ has_bit w (64 * i + k) = has_same v w h (64 * i + k) (omega arith) in
    bit_same (bit_at (slice_index v i) k) (bit_at (slice_index w i) k) (bit_at-lt (slice_index v i) k) (bit_at-lt (slice_index w i) k)
    (subst (λ m. (bit_at (slice_index v m) k == 1) ≡ (bit_at (slice_index w m) k == 1)) at
    (subst (λ m. (bit_at (slice_index v ((64 * i + k) / 64)) m == 1) ≡ (bit_at (slice_index w ((64 * i + k) / 64)) m == 1)) low same)))

words_same : (v w : List ℕ) → AreWords v → AreWords w → bytes_in v ≡ bytes_in w → v ≡ w
words_same v w f g h = same_number_lists v w (f.0 ∙ sym g.0) (λ k l. word_same v w f g h k (omega (arith, f.0)))

-- so a test of the words is one of the bytes
pub sets_decided : (v w : List ℕ) (b : Bool) → AreWords v → AreWords w → b ≡ pointwise nat_eq v w → (b ≡ true) ↔ (bytes_in v ≡ bytes_in w)
sets_decided v w b f g e =
    let same : IsEquivalence (pointwise nat_eq) = nat_list_eq_equiv in
    ((λ h. ap bytes_in (same_text v w (sym h ∙ e))), (λ h. e ∙ (ap (pointwise nat_eq v) (sym (words_same v w f g h)) ∙ same.refl v)))
