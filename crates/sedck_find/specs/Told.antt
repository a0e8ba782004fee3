-- What is told of the words for a sed in a file, this project's own.
use Rattle.std.specs.Prelude.{◌≡◌, ◌++◌, ℕ, Bool, true, false, List, map}
use Rattle.std.specs.List.Sorted.{IsPermutation}
use Rattle.sedck_kinds.specs.declared.kind.Kind.{Kind}
use Rattle.sedck_kinds.specs.declared.kind.Kind.TheVariants as variant
use Rattle.sedck_mentions.specs.Told.{untold}
use Rattle.sedck_mentions.specs.declared.spans.Span.{Span}
use Rattle.sedck_found.specs.declared.found.Found.{Found}
use Rattle.sedck_found.specs.declared.found.FoundCall.{FoundCall}

-- in such a file `dnl` begins a comment
abbrev pub has_macros : Kind → Bool
has_macros variant.Autoconf = true
has_macros _ = false

-- where the file has the name of a call
abbrev pub name_of : FoundCall → Span
name_of call = record { start = call.start; end = call.end }

-- No word for a sed is passed in silence: what isn't understood are the places that the reader tells, and just those words that are in
-- no name of a call, and before which on their line there is no such place.
pub record IsTold (has_macros : Bool) (file : List ℕ) (found : Found) : Type 0 where
  pub places : List ℕ
  pub words : found.words.items ≡ untold has_macros file (map name_of found.calls.items) places
  pub unread : IsPermutation (places ++ found.words.items) found.unread.items
