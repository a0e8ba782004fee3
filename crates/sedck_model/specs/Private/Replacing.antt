-- A substitution, match by match, as the code goes through the texts.
use Rattle.std.specs.Prelude.{◌≡◌, ◌⊎◌, ℕ, ◌-◌, ◌≤◌, false, true, List, [], ◌∷◌, ◌++◌, length, take, drop}
use Rattle.sedck_bre.specs.Tree.{Tree}
use Rattle.sedck_bre.specs.Match.{Groups, Match}
use Rattle.sedck_script.specs.Program.{Part, Substitution}
use Rattle.sedck_flow.specs.Substitutes.{Occurrence, replacement, matched, replaced, AreMatchesIn, AreApart}
use Rattle.sedck_model.specs.Spots.{groups_of}
use Rattle.sedck_model.specs.declared.spots.Spot.{Spot}

-- The old text is matches with what is after each, and the new one the same with each match replaced.
pub record Replaces (t : Tree) (s : Substitution) (old new : List ℕ) : Type 0 where
  pub first : Occurrence
  pub more : List Occurrence
  pub one_match : s.global ≡ false → more ≡ []
  pub are_matches : AreMatchesIn Match t (first ∷ more)
  pub are_apart : AreApart (first ∷ more)
  pub is_old : old ≡ matched (first ∷ more)
  pub is_new : new ≡ replaced s.parts (first ∷ more)

-- The same behind some text with which both begin.
pub record ReplacesIn (t : Tree) (s : Substitution) (old new : List ℕ) : Type 0 where
  pub front : List ℕ
  pub old_rest : List ℕ
  pub new_rest : List ℕ
  pub is_old : old ≡ front ++ old_rest
  pub is_new : new ≡ front ++ new_rest
  pub replaces : Replaces t s old_rest new_rest

-- After a match some text stays: all that is left, or at least so many bytes, and then another match follows.
pub record Continues (t : Tree) (s : Substitution) (least : ℕ) (old new : List ℕ) : Type 0 where
  pub behind : List ℕ
  pub old_rest : List ℕ
  pub new_rest : List ℕ
  pub is_old : old ≡ behind ++ old_rest
  pub is_new : new ≡ behind ++ new_rest
  pub ends : ((old_rest ≡ []) × (new_rest ≡ [])) ⊎ ((s.global ≡ true) × (least ≤ length behind) × Replaces t s old_rest new_rest)

-- a match with this text and these groups, and what takes its place
abbrev pub occurrence : List ℕ → Groups → Occurrence
occurrence w e = record { whole = w; groups = e; behind = [] }

abbrev pub text_for : List Part → List ℕ → Groups → List ℕ
text_for parts w e = replacement parts (occurrence w e)

-- The match that ends at this spot is the first one. An empty match isn't directly followed by the next one.
pub record ReplacesAt (t : Tree) (s : Substitution) (old new : List ℕ) (spot : Spot) : Type 0 where
  pub new_rest : List ℕ
  pub is_new : new ≡ text_for s.parts (take spot.at old) (groups_of old spot.groups) ++ new_rest
  pub continues : Continues t s (1 - spot.at) (drop spot.at old) new_rest
