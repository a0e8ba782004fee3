-- Where the matches of an expression lead in a text. Which texts a tree matches is said by `Match` (XBD 9.3).
use Rattle.std.specs.Prelude.{◌≡◌, ℕ, List, ◌++◌, drop, map, Contains, Option, Some, None, ◌↔◌, slice_range, slice_index_or}
use Rattle.sedck_bre.specs.Tree.{Tree}
use Rattle.sedck_bre.specs.Match.{Groups, no_groups, Match, Language}
use Rattle.sedck_model.specs.declared.spots.Span.{Span}
use Rattle.sedck_model.specs.declared.spots.Spot.{Spot}

-- where a match has come to: the text that is left, and the texts of the groups
pub record Reached : Type 0 where
  pub rest : List ℕ
  pub groups : Groups

-- a match of the tree leads from one to the other: it matches what is between them
abbrev pub Leads : Tree → Reached → Reached → Type 0
Leads t from to = (w : List ℕ) × (from.rest ≡ w ++ to.rest) × Match t from.groups w to.groups

-- the part of the text, if there is one
abbrev pub span_text : List ℕ → Option Span → Option (List ℕ)
span_text text None = None
span_text text (Some span) = Some (slice_range text span.start span.end)

-- the text of each group
abbrev pub groups_of : List ℕ → List (Option Span) → Groups
groups_of text spans k = span_text text (slice_index_or spans k None)

-- the same of a value of the code's type
abbrev pub reached : List ℕ → Spot → Reached
reached text spot = record { rest = drop spot.at text; groups = groups_of text spot.groups }

-- at the offset no group has a text
abbrev pub beginning : List ℕ → ℕ → Reached
beginning text at = record { rest = drop at text; groups = no_groups }

-- the spots are all those to which a match of the tree leads
abbrev pub AreEnds : List ℕ → Tree → Reached → List Spot → Type 0
AreEnds text t from spots = (to : Reached) → Leads t from to ↔ Contains (map (reached text) spots) to

-- some part of the text is in the language
abbrev pub HasPartIn : Tree → List ℕ → Type 0
HasPartIn t text = (before found after : List ℕ) × (text ≡ before ++ found ++ after) × Language t found
