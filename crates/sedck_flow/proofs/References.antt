-- Whether a replacement keeps groups is decided by cases; the length of what it makes.
use Rattle.sedck_flow.proofs.Common.{◌≡◌, ◌⊎◌, ℕ, ◌+◌, Bool, IsTrue, List, [], ◌∷◌, length, refl, ◌∙◌, inl, inr, arith, length-append, cases_eq, Tree, text_of, texts_length, AreDifferentTopGroups, HasNoWhole, named_groups, AreDistinct, AreTopGroups, KeepsGroups, Pattern, Previous, Expression, Part, Text, Whole, Group, literal_length, IsWholeAlone, Occurrence, replacement, is_top_group, IsNotIn}
use Rattle.std.specs.Prelude.{◌≢◌}
use Rattle.sedck_commands.proofs.ReferenceLemmas.{not_in}

-- holds or fails
abbrev pub Decided : Type 0 → Type 0
Decided P = P ⊎ (¬ P)

-- ---- Lengths

-- its literal parts and the texts of the groups, one after another
pub length-replacement : (m : Occurrence) (parts : List Part) → HasNoWhole parts
    → length (replacement parts m) ≡ literal_length parts + texts_length m.groups (named_groups parts)
length-replacement m [] h = refl
length-replacement m (Text bytes ∷ parts) h = length-append bytes (replacement parts m) ∙ omega (arith, length-replacement m parts h)
length-replacement m (Whole ∷ parts) h = absurd h
length-replacement m (Group k ∷ parts) h = length-append (text_of m.groups k) (replacement parts m) ∙ omega (arith, length-replacement m parts h)
length-replacement m (_ ∷ parts) h = omega (arith, length-replacement m parts h)

-- `&` alone puts the match back
pub length-alone : (m : Occurrence) (parts : List Part) → IsWholeAlone parts → length (replacement parts m) ≡ length m.whole
length-alone m (Whole ∷ []) h = omega (arith, length-append m.whole [])
length-alone m _ h = absurd h

pub alone_has_whole : (parts : List Part) → IsWholeAlone parts → HasNoWhole parts → ⊥
alone_has_whole (Whole ∷ parts) alone h = h
alone_has_whole _ alone h = alone

-- ---- What is decided of a replacement

pub alone_or_not : (parts : List Part) → Decided (IsWholeAlone parts)
alone_or_not (Whole ∷ []) = inl tt
alone_or_not _ = inr (λ h. h)

no_whole_or_not : (parts : List Part) → Decided (HasNoWhole parts)
no_whole_or_not [] = inl tt
no_whole_or_not (Whole ∷ parts) = inr (λ h. h)
no_whole_or_not (_ ∷ parts) = no_whole_or_not parts

same_or_not : (k j : ℕ) → Decided (k ≡ j)
same_or_not k j = cases_eq k j

both_or_not : (A B : Type 0) → Decided A → Decided B → Decided (A × B)
both_or_not A B a b = grind arith

not_in_or_in : (k : ℕ) (js : List ℕ) → Decided (IsNotIn k js)
not_in_or_in k [] = inl tt
not_in_or_in k (j ∷ js) = let other : Decided (k ≢ j) = grind (arith, same_or_not k j) in both_or_not (k ≢ j) (IsNotIn k js) other (not_in_or_in k js)

distinct_or_not : (ks : List ℕ) → Decided (AreDistinct ks)
distinct_or_not [] = inl tt
distinct_or_not (k ∷ ks) = both_or_not (IsNotIn k ks) (AreDistinct ks) (not_in_or_in k ks) (distinct_or_not ks)

is_true_or_not : (b : Bool) → Decided (IsTrue b)
is_true_or_not b = grind arith

top_or_not : (pattern : Pattern) (ks : List ℕ) → Decided (AreTopGroups pattern ks)
top_or_not pattern [] = inl tt
top_or_not Previous (k ∷ ks) = inr (λ h. h)
top_or_not (Expression own) (k ∷ ks) =
    both_or_not (IsTrue (is_top_group own k)) (AreTopGroups (Expression own) ks) (is_true_or_not (is_top_group own k)) (top_or_not (Expression own) ks)

pub keeps_groups_or_not : (pattern : Pattern) (parts : List Part) → Decided (KeepsGroups pattern parts)
keeps_groups_or_not pattern parts =
    let no_whole = no_whole_or_not parts in
    let distinct = distinct_or_not (named_groups parts) in
    let top = top_or_not pattern (named_groups parts) in
    grind arith

-- ---- The groups

pub different_groups : (own : Tree) (ks : List ℕ) → AreDistinct ks → AreTopGroups (Expression own) ks → AreDifferentTopGroups own ks
different_groups own [] distinct top = tt
different_groups own (k ∷ ks) distinct top = (top.0, not_in k ks distinct.0, different_groups own ks distinct.1 top.1)

-- an empty expression has no groups
pub no_groups_of_previous : (ks : List ℕ) → AreTopGroups Previous ks → ks ≡ []
no_groups_of_previous [] h = refl
no_groups_of_previous (k ∷ ks) h = absurd h
