-- A replacement has one fault at most, and can't be read where it has one.
use Rattle.sedck_commands.proofs.Common.{◌≡◌, ◌≢◌, ℕ, List, [], ◌∷◌, ◌++◌, refl, ap, sym, ◌∙◌, subst, inl, inr, ◌⊎◌, arith, Longest, Part, Group, EscapedPart, Replacement, is_plain, Piece, IsPiece, HasGroupsUpTo, ScriptFault, longest_one, Contains-append_right, BeginsAt, IsPartWithin, ReplacementFault, BadReplacement}
use Rattle.sedck_commands.specs.FirstFaults as o
use Rattle.sedck_commands.specs.declared.delimited.Piece.TheVariants as piece
use Rattle.sedck_commands.proofs.UniqueParts.{at_piece, replacement_first, whole_behind, run_behind, plain_run}
use Rattle.sedck_commands.proofs.OneFaultEnds.{at_one}
use Rattle.sedck_commands.proofs.OneFaultParts.{PartView, piece_not, missing_piece, there_piece}

-- a backslash and this byte mean nothing here
abbrev IsMeaningless : ℕ → ℕ → Type 0
IsMeaningless greatest b = (part : Part) → EscapedPart b part → IsPartWithin greatest part → ⊥

abbrev Behind : ℕ → ℕ → ℕ → ℕ → List ℕ → Piece → List ℕ → ScriptFault → Type 0
Behind size opening d greatest text piece.End rest f = ⊥
Behind size opening d greatest text (piece.Byte b) rest f = ((b ≡ 38) × ReplacementFault size opening d greatest rest f)
    ⊎ ((bytes behind : List ℕ) × Longest (is_plain d) text (b ∷ bytes) behind × ReplacementFault size opening d greatest behind f)
Behind size opening d greatest text piece.Escaped rest f = ReplacementFault size opening d greatest rest f
Behind size opening d greatest text (piece.Pair b) rest f =
    (IsMeaningless greatest b × (offset : ℕ) × BeginsAt size text offset × (f ≡ BadReplacement offset))
    ⊎ ((first : Part) × EscapedPart b first × IsPartWithin greatest first × ReplacementFault size opening d greatest rest f)

-- the `&` of a whole match
whole_piece : {d : ℕ} {text behind : List ℕ} → text ≡ 38 ∷ behind → 38 ≢ d → IsPiece d text (piece.Byte 38) behind
whole_piece e h = (e, h, λ k. omega (arith, k), λ k. omega (arith, k))

run_piece : {d c : ℕ} {text bytes behind : List ℕ} → Longest (is_plain d) text (c ∷ bytes) behind → IsPiece d text (piece.Byte c) (bytes ++ behind)
run_piece l = let plain = plain_run l in (l.cut, plain.0, plain.1, plain.3)

view : {size opening d greatest : ℕ} {text : List ℕ} {f : ScriptFault} → ReplacementFault size opening d greatest text f
    → PartView size opening d text (Behind size opening d greatest text) f
view (o.piece x) = inl x
view (o.meaningless {b = b} {offset = offset} e h n a) = inr (record { kind = piece.Pair b; rest = _; is = (e, h); behind = inl (n, offset, a, refl) })
view (o.whole e h x) = inr (record { kind = piece.Byte 38; rest = _; is = whole_piece e h; behind = inl (refl, x) })
view (o.escaped e h x) = inr (record { kind = piece.Escaped; rest = _; is = (e, h); behind = x })
view (o.part {b = b} {first = first} e h p w x) = inr (record { kind = piece.Pair b; rest = _; is = (e, h); behind = inr (first, p, w, x) })
view (o.run {bytes = bytes} {behind = behind} {b = b} l x) =
    inr (record { kind = piece.Byte b; rest = bytes ++ behind; is = run_piece l; behind = inr (bytes, behind, l, x) })

pub replacement_fault_one : {size opening d greatest : ℕ} {text : List ℕ} {f g : ScriptFault} → d ≢ 92 → d ≢ 10
    → ReplacementFault size opening d greatest text f → ReplacementFault size opening d greatest text g → f ≡ g
replacement_fault_one n m (o.piece x) y = missing_piece (Behind _ _ _ _ _) n m x (view y)
replacement_fault_one n m (o.meaningless {b = b} e h none a) y = elim (there_piece (Behind _ _ _ _ _) n m (piece.Pair b) _ (e, h) (view y)) [
  | inl k ↦ ap BadReplacement (at_one refl a k.2) ∙ sym k.3
  | inr k ↦ absurd (none k.0 k.1 k.2)
]
replacement_fault_one n m (o.whole e h x) y = elim (there_piece (Behind _ _ _ _ _) n m (piece.Byte 38) _ (whole_piece e h) (view y)) [
  | inl k ↦ replacement_fault_one n m x k.1
  | inr k ↦ absurd ((plain_run k.2).2 refl)
]
replacement_fault_one n m (o.escaped e h x) y = replacement_fault_one n m x (there_piece (Behind _ _ _ _ _) n m piece.Escaped _ (e, h) (view y))
replacement_fault_one n m (o.part {b = b} e h p w x) y = elim (there_piece (Behind _ _ _ _ _) n m (piece.Pair b) _ (e, h) (view y)) [
  | inl k ↦ absurd (k.0 _ p w)
  | inr k ↦ replacement_fault_one n m x k.3
]
replacement_fault_one {size} {opening} {d} {greatest} {g = g} n m (o.run {b = b} l x) y =
    elim (there_piece (Behind _ _ _ _ _) n m (piece.Byte b) _ (run_piece l) (view y)) [
      | inl k ↦ absurd ((plain_run l).2 k.0)
      | inr k ↦ replacement_fault_one n m x (subst (λ t. ReplacementFault size opening d greatest t g) (longest_one k.2 l).1 k.3)
    ]

others_within : {greatest : ℕ} {first : Part} {more parts : List Part} → parts ≡ first ∷ more → HasGroupsUpTo greatest parts → HasGroupsUpTo greatest more
others_within {first = first} {more = more} e w k i = w k (rw e (Contains-append_right (first ∷ []) more (Group k) i))

first_within : {greatest : ℕ} {more parts : List Part} (first : Part) → parts ≡ first ∷ more → HasGroupsUpTo greatest parts → IsPartWithin greatest first
first_within (Group k) e w = w k (rw e (0, omega arith, refl))
first_within _ e w = tt

pub replacement_fault_not : {size opening d greatest : ℕ} {text rest : List ℕ} {parts : List Part} {f : ScriptFault} → d ≢ 92 → d ≢ 10
    → ReplacementFault size opening d greatest text f → Replacement d text parts rest → HasGroupsUpTo greatest parts → ⊥
replacement_fault_not n m (o.piece x) y w = let first = replacement_first y in piece_not first.kind first.rest n m x first.is
replacement_fault_not n m (o.meaningless {b = b} e h none a) y w =
    let first = at_piece (piece.Pair b) _ (replacement_first y) n (e, h) in none first.0 first.1 (first_within first.0 first.2.1 w)
replacement_fault_not n m (o.whole e h x) y w =
    let more = whole_behind n (whole_piece e h) refl y in replacement_fault_not n m x more.2 (others_within more.1 w)
replacement_fault_not n m (o.escaped e h x) y w =
    let more = at_piece piece.Escaped _ (replacement_first y) n (e, h) in replacement_fault_not n m x more.2 (others_within more.1 w)
replacement_fault_not n m (o.part {b = b} e h p i x) y w =
    let first = at_piece (piece.Pair b) _ (replacement_first y) n (e, h) in replacement_fault_not n m x first.2.2 (others_within first.2.1 w)
replacement_fault_not n m (o.run l x) y w = let more = run_behind l n y in replacement_fault_not n m x more.2 (others_within more.1 w)
