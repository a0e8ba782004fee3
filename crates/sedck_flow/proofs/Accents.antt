-- `é*` matches `éé` by characters, and not by bytes.
use Rattle.sedck_flow.proofs.Common.{◌≡◌, ℕ, zero, suc, ◌==◌, Bool, false, List, [], ◌∷◌, ◌++◌, refl, ap, sym, ◌∙◌, arith, list_any, false≢true, Byte, Groups, no_groups, Times, WideMatch, CharacterMatch, append-nil, accents, two_accents}

abbrev has_first : List ℕ → Bool
has_first w = list_any (λ b. b == 195) w

never_first : (n : ℕ) (e : Groups) (w : List ℕ) (e' : Groups) → Times (WideMatch (Byte 169)) n e w e' → has_first w ≡ false
never_first zero e w e' (is, same) = ap has_first is
never_first (suc n) e w e' (u, v, d, cut, (is, same), more) = ap has_first (cut ∙ ap (λ x. x ++ v) is) ∙ never_first n d v e' more

rest_of : (u v : List ℕ) → two_accents ≡ u ++ v → u ≡ 195 ∷ [] → v ≡ 169 ∷ 195 ∷ 169 ∷ []
rest_of u v cut is =
    let whole : two_accents ≡ 195 ∷ v = cut ∙ ap (λ x. x ++ v) is in
    cc

pub by_characters : CharacterMatch accents no_groups two_accents no_groups
by_characters = (
  two_accents,
  [],
  no_groups,
  refl,
  (2, omega arith, (195 ∷ 169 ∷ [], 195 ∷ 169 ∷ [], no_groups, refl, (refl, refl), (195 ∷ 169 ∷ [], [], no_groups, refl, (refl, refl), (refl, refl)))),
  (refl, refl),
)

pub not_by_bytes : ¬ WideMatch accents no_groups two_accents no_groups
not_by_bytes (u, v, d, cut, (is, same), (x, y, f, halves, (n, within, times), (none, kept))) =
    let whole : x ≡ v = sym (append-nil x) ∙ ap (λ z. x ++ z) (sym none) ∙ sym halves in
    let text = rest_of u v cut is in
    absurd (false≢true (sym (never_first n d x f times) ∙ ap has_first (whole ∙ text)))
