-- Where carriage returns are in a comment.
use Rattle.sedck_commands.proofs.Common.{◌≡◌, ℕ, suc, ◌+◌, ◌<◌, ◌≤◌, true, inl, inr, Option, Some, None, List, [], ◌∷◌, ◌++◌, length, take, drop, get_or, refl, ap, ◌∙◌, length-append, arith, split_at, get_or-append_seam, nil_from_length, eqb-true, eq-eqb, HasNoInnerReturn, cases_order, IsFirstByte, is_byte}

-- where the first one, if there is one, is the last byte
pub no_inner_return : (line : List ℕ) (first : Option ℕ) → IsFirstByte (is_byte 13) line first → ((at : ℕ) → first ≡ Some at → length line ≤ suc at)
    → HasNoInnerReturn line
no_inner_return line first is last front behind e = by first is last
  where
    long : length line ≡ length front + suc (length behind)
    long = ap length e ∙ length-append front (13 ∷ behind)

    here : is_byte 13 (get_or line (length front) 0) ≡ true
    here = eq-eqb _ 13 (ap (λ t. get_or t (length front) 0) e ∙ get_or-append_seam front 13 behind 0)

    by : (first : Option ℕ) → IsFirstByte (is_byte 13) line first → ((at : ℕ) → first ≡ Some at → length line ≤ suc at) → behind ≡ []
    by None is last = absurd (is (length front) (omega arith) (omega (arith, long)) here)
    by (Some at) is last =
        let enough = last at refl in
        elim (cases_order at (length front)) [
          | inl same ↦ nil_from_length behind (omega (arith, long, enough, same))
          | inr (inl later) ↦ nil_from_length behind (omega (arith, long, enough, later))
          | inr (inr before) ↦ absurd (is.0.before (length front) (omega arith) before here)
        ]

pub return_cut : (line : List ℕ) (at : ℕ) → is_byte 13 (get_or line at 0) ≡ true → at < length line → line ≡ take at line ++ 13 ∷ drop (suc at) line
return_cut line at is within = split_at line at 0 within ∙ ap (λ b. take at line ++ b ∷ drop (suc at) line) (eqb-true _ 13 is)
