-- Where a byte of a line is in the whole text.
use Rattle.sedck_commands.proofs.Common.{◌≡◌, ℕ, true, false, Bool, Option, ◌+◌, ◌-◌, ◌<◌, inl, inr, Some, List, [], ◌∷◌, ◌++◌, length, get_or, refl, ap, sym, ◌∙◌, subst, length-append, arith, get_or-append_seam, false≢true, eqb-true, eqb_tells, IsTrue, begins, is_continued, MatchOption}

-- the last byte of such a line is a backslash
pub continued_cut : (line : List ℕ) → is_continued line ≡ true → (front : List ℕ) × (line ≡ front ++ 92 ∷ [])
continued_cut [] h = absurd (false≢true h)
continued_cut (b ∷ []) h = ([], ap (λ x. x ∷ []) (eqb-true b 92 h))
continued_cut (b ∷ c ∷ line) h = elim (eqb_tells b 92) [
  | inl s ↦ (let k = continued_cut line (rw s.0 at h) in (b ∷ c ∷ k.0, ap (λ t. b ∷ c ∷ t) k.1))
  | inr s ↦ (let k = continued_cut (c ∷ line) (rw s.0 at h) in (b ∷ k.0, ap (λ t. b ∷ t) k.1))
]

-- so it isn't empty, and its last byte is that one
pub continued_last : (line : List ℕ) → is_continued line ≡ true → (0 < length line) × (get_or line (length line - 1) 0 ≡ 92)
continued_last line h =
    let k = continued_cut line h in
    let size : length line ≡ length k.0 + 1 = ap length k.1 ∙ length-append k.0 (92 ∷ []) in (
      omega (arith, size),
      ap (λ t. get_or t (length line - 1) 0) k.1 ∙ ap (λ n. get_or (k.0 ++ 92 ∷ []) n 0) (omega (arith, size)) ∙ get_or-append_seam k.0 92 [] 0,
    )

-- what refutes this makes a line one that isn't continued
pub not_continued : (line : List ℕ) → ((0 < length line) × (get_or line (length line - 1) 0 ≡ 92) → ⊥) → false ≡ is_continued line
not_continued line other = go (is_continued line) refl
  where
    go : (found : Bool) → is_continued line ≡ found → false ≡ is_continued line
    go true h = absurd (other (continued_last line h))
    go false h = sym h

-- a text whose first byte is a `#` begins with it
pub begins_hash : (text : List ℕ) {first : Option ℕ} → MatchOption first (text ≡ []) (λ b. (more : List ℕ) × (text ≡ b ∷ more))
    → first ≡ Some 35 → IsTrue (begins "#" text)
begins_hash text h e =
    let cut = subst (λ f. MatchOption f (text ≡ []) (λ b. (more : List ℕ) × (text ≡ b ∷ more))) e h in
    subst (λ t. IsTrue (begins "#" t)) (sym cut.1) refl
