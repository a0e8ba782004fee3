-- How far a replacement has been read.
use Rattle.sedck_commands.proofs.Common.{◌≡◌, ◌≢◌, ℕ, ◌≤◌, true, List, [], ◌∷◌, ◌++◌, length, take, drop, zero, suc, refl, ap, sym, ◌∙◌, subst, append_assoc, append-nil, length-append, arith, inl, inr, both_ways, not_from_false, or_from, not-true, is_digit, Longest, Part, Text, Whole, Group, EscapedPart, Replacement, is_plain, IsPiece, HasGroupsUpTo, Contains-append_cases, ne_eqb, IsPartWithin, IsFirstPart}
use Rattle.sedck_commands.specs.Parts as p
use Rattle.sedck_commands.specs.declared.delimited.Piece.TheVariants as piece
use Rattle.sedck_commands.proofs.FirstBytes.{heads}

plain_from : (d b : ℕ) → b ≢ d → b ≢ 92 → b ≢ 10 → b ≢ 38 → is_plain d b ≡ true
plain_from d b h i j k = not_from_false _ (or_from _ _ (ne_eqb b d h) (or_from _ _ (ne_eqb b 92 i) (or_from _ _ (ne_eqb b 10 j) (ne_eqb b 38 k))))

-- a byte that stands for itself begins the longest run of such bytes
pub run_of : {d b : ℕ} {text behind after : List ℕ} (run : List ℕ) → IsPiece d text (piece.Byte b) behind → b ≢ 38 → Longest (is_plain d) text run after
    → (bytes : List ℕ) × (run ≡ b ∷ bytes)
run_of (c ∷ run) h e l = (run, ap (λ a. a ∷ run) (heads (sym l.cut ∙ h.0)))
run_of {after = []} [] h e l = absurd (cc (h.0, l.cut))
run_of {d} {b} {after = c ∷ after} [] h e l =
    let same : c ≡ b = heads (sym l.cut ∙ h.0) in
    absurd (both_ways (is_plain d c) (not-true _ l.stops) (rw same (plain_from d b h.1 h.2 h.3 e)))

-- ---- One part

pub first_whole : {d b : ℕ} {text behind : List ℕ} (g : ℕ) → IsPiece d text (piece.Byte b) behind → b ≡ 38 → IsFirstPart d g text Whole behind
first_whole g h e = record { shorter = omega (arith, ap length h.0); within = tt; sound = λ parts r x. rw h.0 (p.whole h.1 e x) }

pub first_run : {d b : ℕ} {text behind run after : List ℕ} (g : ℕ) → IsPiece d text (piece.Byte b) behind → b ≢ 38
    → Longest (is_plain d) text run after → IsFirstPart d g text (Text run) after
first_run {d} {b} {text} {run = run} {after = after} g h e l =
    let some = run_of run h e l in
    let m : Longest (is_plain d) text (b ∷ some.0) after = rw some.1 at l in
    rw some.1 (record { shorter = omega (arith, ap length m.cut, length-append (b ∷ some.0) after); within = tt; sound = λ parts r x. p.run m x })

pub first_escaped : {d : ℕ} {text behind : List ℕ} (g : ℕ) → IsPiece d text piece.Escaped behind
    → IsFirstPart d g text (Text (take 1 (drop 1 text))) behind
first_escaped g h = rw h.0 (record { shorter = omega arith; within = tt; sound = λ parts r x. p.escaped refl refl h.1 x })

pub first_pair : {d b : ℕ} {text behind : List ℕ} (g : ℕ) (first : Part) → IsPiece d text (piece.Pair b) behind → EscapedPart b first
    → IsPartWithin g first → IsFirstPart d g text first behind
first_pair g first h e w = record { shorter = omega (arith, ap length h.0); within = w; sound = λ parts r x. rw h.0 (p.part refl h.1 e x) }

-- ---- All parts

-- These parts have been read, and rest is left.
pub record PartsPassed (d g : ℕ) (text : List ℕ) (parts : List Part) (rest : List ℕ) : Type 0 where
  pub groups : HasGroupsUpTo g parts
  pub sound : (more : List Part) (r : List ℕ) → Replacement d rest more r → Replacement d text (parts ++ more) r

part_groups : (g : ℕ) (parts : List Part) (first : Part) → HasGroupsUpTo g parts → IsPartWithin g first → HasGroupsUpTo g (parts ++ first ∷ [])
part_groups g parts first h w k i = elim (Contains-append_cases parts (first ∷ []) (Group k) i) [
  | inl j ↦ h k j
  | inr (zero, lt, e) ↦ subst (IsPartWithin g) e w
  | inr (suc j, lt, e) ↦ absurd (omega arith)
]

pub parts_more : {d g : ℕ} {text rest behind : List ℕ} {parts : List Part} {first : Part} (all : List Part) → all ≡ parts ++ first ∷ []
    → PartsPassed d g text parts rest → IsFirstPart d g rest first behind → PartsPassed d g text all behind
parts_more {d} {g} {parts = parts} {first = first} all e h s = record {
  groups = rw e (part_groups g parts first h.groups s.within);
  sound = λ more r x. rw (e, append_assoc) (h.sound (first ∷ more) r (s.sound more r x));
}

pub parts_end : {d g : ℕ} {text rest behind : List ℕ} {parts : List Part} → PartsPassed d g text parts rest → rest ≡ d ∷ behind
    → Replacement d text parts behind
parts_end {d} {behind = behind} h e = rw append-nil at (h.sound [] behind (rw e (p.ends refl)))

pub digit_group : (b : ℕ) → is_digit b ≡ true → b ≢ 48 → (49 ≤ b) × (b ≤ 57)
digit_group b h n = (grind (arith, h, n), grind (arith, h))
