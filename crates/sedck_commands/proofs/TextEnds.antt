-- A text that ends the whole one, and what is at its offset there.
use Rattle.sedck_commands.proofs.Common.{◌≡◌, ℕ, Bool, false, not, List, [], ◌∷◌, ◌++◌, length, take, drop, refl, ap, sym, ◌∙◌, subst, append_assoc, length-append, arith, not-true, slice_get_within, first_there, IsTrue, is_blank, IsEmptyOr, Longest, StandsAt, EndsOrFails, EndsIn, FollowsByte, BeginsAt}
use Rattle.sedck_commands.proofs.OffsetLemmas.{take_front}

-- from its offset on the whole is the text
pub whole_from : {whole text : List ℕ} (offset : ℕ) → EndsIn whole text → BeginsAt (length whole) text offset → drop offset whole ≡ text
whole_from {whole} {text} offset h a =
    let at : offset ≡ length h.0 = omega (arith, a, ap length h.1, length-append h.0 text) in
    ap (drop offset) h.1 ∙ (take_front h.0 text offset at).1

-- up to what is behind the front of a text
pub whole_to : {whole text : List ℕ} (front rest : List ℕ) (offset : ℕ) (h : EndsIn whole text) → text ≡ front ++ rest
    → BeginsAt (length whole) rest offset → take offset whole ≡ h.0 ++ front
whole_to front rest offset h e a =
    let cut = h.1 ∙ ap (λ t. h.0 ++ t) e ∙ sym (append_assoc h.0 front rest) in
    let at : offset ≡ length (h.0 ++ front) = omega (arith, a, ap length cut, length-append (h.0 ++ front) rest) in
    ap (take offset) cut ∙ (take_front (h.0 ++ front) rest offset at).0

pub byte_at : {whole text behind : List ℕ} {b : ℕ} (offset : ℕ) → EndsIn whole text → text ≡ b ∷ behind → BeginsAt (length whole) text offset
    → StandsAt whole offset b
byte_at {whole} {behind = behind} {b = b} offset h e a = first_there offset whole behind b (whole_from offset h a ∙ e)

-- where no byte that passes the test begins the text
pub fails_at : {test : ℕ → Bool} {whole text : List ℕ} (offset : ℕ) → EndsIn whole text → IsEmptyOr (λ b. not (test b)) text
    → BeginsAt (length whole) text offset → EndsOrFails test whole offset
fails_at {whole = whole} {text = []} offset h none a = (omega (arith, a), λ b at. absurd (omega (arith, a, slice_get_within whole offset b at)))
fails_at {test} {text = c ∷ text} offset h none a = (
  omega (arith, a),
  λ b at. (let same : c ≡ b = cc (byte_at offset h refl a, at) in subst (λ d. test d ≡ false) same (not-true (test c) none)),
)

-- before the offset are this byte and then blanks
pub follows_byte : {test : ℕ → Bool} {whole text blanks rest : List ℕ} {b : ℕ} (offset : ℕ) → EndsIn whole (b ∷ text) → Longest is_blank text blanks rest
    → BeginsAt (length whole) rest offset → IsTrue (test b) → FollowsByte test whole offset
follows_byte {blanks = blanks} {rest = rest} {b = b} offset h l a passes =
    (h.0, blanks, b, whole_to (b ∷ blanks) rest offset h (ap (λ t. b ∷ t) l.cut) a, passes, l.passes)
