-- The first control character of a name.
use Rattle.std.proofs.Common.{nat_lt}
use Rattle.std.proofs.lemmas.List.{take_all}
use Rattle.sedck_commands.proofs.Common.{◌≡◌, ℕ, ◌<◌, ◌≤◌, ◌-◌, ◌==◌, true, false, not, ◌||◌, ◌&&◌, List, [], ◌∷◌, ◌++◌, length, get_or, take, drop, refl, ap, sym, ◌∙◌, subst, inl, inr, arith, nat_tests, false≢true, and_parts, or_cases, eqb-true, list_all, IsTrue, is_newline, is_extra}
use Rattle.sedck_commands.specs.ReadAlike.{begins_control, ends_control, has_control}
use Rattle.sedck_commands.specs.FirstFaults.{FirstControl}
use Rattle.sedck_commands.specs.FirstFaults as o

here_has : (text : List ℕ) → begins_control text ≡ true → has_control text ≡ true
here_has [] h = absurd (false≢true h)
here_has (b ∷ text) h = ap (λ v. v || has_control text) h

pub control_has : {text behind : List ℕ} → FirstControl text behind → has_control text ≡ true
control_has (o.here {text = text} h) = here_has text h
control_has (o.later {text = text} n f) = ap (λ v. v || has_control text) n ∙ control_has f

pub control_one : {text u v : List ℕ} → FirstControl text u → FirstControl text v → u ≡ v
control_one (o.here h) (o.here g) = refl
control_one (o.here h) (o.later n f) = absurd (false≢true (sym n ∙ h))
control_one (o.later n f) (o.here h) = absurd (false≢true (sym n ∙ h))
control_one (o.later n f) (o.later m g) = control_one f g

pub control_cut : {text behind : List ℕ} → FirstControl text behind → (front : List ℕ) × (text ≡ front ++ behind)
control_cut (o.here h) = ([], refl)
control_cut (o.later {b = b} n f) = let k = control_cut f in (b ∷ k.0, ap (λ t. b ∷ t) k.1)

pub control_some : (text : List ℕ) {behind : List ℕ} → FirstControl text behind → 0 < length text
control_some [] f = absurd (false≢true (control_has f))
control_some (b ∷ text) f = omega arith

below : (b : ℕ) → (nat_lt b 32 && not (b == 9)) ≡ true → IsTrue (not (is_newline b)) → IsTrue (is_extra b)
below b h n = let both = and_parts (nat_lt b 32) (not (b == 9)) h in grind (arith, nat_tests, both.0, both.1, n)

above : (b : ℕ) (text : List ℕ) → ((b == 127) || ((b == 194) && ends_control text)) ≡ true → IsTrue (is_extra b)
above b text h = elim (or_cases (b == 127) ((b == 194) && ends_control text) h) [
  | inl e ↦ rw (eqb-true b 127 e) refl
  | inr e ↦ rw (eqb-true b 194 (and_parts (b == 194) (ends_control text) e).0) refl
]

extra : (b : ℕ) (text : List ℕ) → begins_control (b ∷ text) ≡ true → IsTrue (not (is_newline b)) → IsTrue (is_extra b)
extra b text h n = elim (or_cases (nat_lt b 32 && not (b == 9)) ((b == 127) || ((b == 194) && ends_control text)) h) [
  | inl low ↦ below b low n
  | inr high ↦ above b text high
]

here_byte : (text : List ℕ) → begins_control text ≡ true → IsTrue (list_all (λ b. not (is_newline b)) text)
    → (b : ℕ) × (more : List ℕ) × (text ≡ b ∷ more) × IsTrue (is_extra b)
here_byte [] h p = absurd (false≢true h)
here_byte (b ∷ text) h p = (b, text, refl, extra b text h (and_parts (not (is_newline b)) (list_all (λ c. not (is_newline c)) text) p).0)

-- its first byte may not follow a command
pub control_byte : {text behind : List ℕ} → FirstControl text behind → IsTrue (list_all (λ b. not (is_newline b)) text)
    → (b : ℕ) × (more : List ℕ) × (behind ≡ b ∷ more) × IsTrue (is_extra b)
control_byte (o.here {text = text} h) p = here_byte text h p
control_byte (o.later {b = b} {text = text} n f) p =
    control_byte f (and_parts (not (is_newline b)) (list_all (λ c. not (is_newline c)) text) p).1

-- ---- Byte by byte

rest_of : (b : ℕ) (more : List ℕ) → take (length (b ∷ more) - 1) more ≡ more
rest_of b more = take_all (length (b ∷ more) - 1) more (omega arith)

-- a control character is at the first byte of what is left
pub control_here : (rest : List ℕ) → 1 ≤ length rest → begins_control (get_or rest 0 0 ∷ take (length rest - 1) (drop 1 rest)) ≡ true
    → begins_control rest ≡ true
control_here [] some h = absurd (omega (arith, some))
control_here (b ∷ more) some h = subst (λ t. begins_control (b ∷ t) ≡ true) (rest_of b more) h

-- none is
pub control_later : (rest : List ℕ) → 1 ≤ length rest → begins_control (get_or rest 0 0 ∷ take (length rest - 1) (drop 1 rest)) ≡ false
    → (has_control (take (length rest - 1) (drop 1 rest)) ≡ has_control rest)
    × ((behind : List ℕ) → FirstControl (take (length rest - 1) (drop 1 rest)) behind → FirstControl rest behind)
control_later [] some h = absurd (omega (arith, some))
control_later (b ∷ more) some h =
    let n = subst (λ t. begins_control (b ∷ t) ≡ false) (rest_of b more) h in (
      ap has_control (rest_of b more) ∙ sym (ap (λ v. v || has_control more) n),
      λ behind f. o.later n (subst (λ t. FirstControl t behind) (rest_of b more) f),
    )
