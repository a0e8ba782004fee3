-- Where the texts of a call come from.
use Rattle.std.specs.Prelude.{ℕ, List, [], drop, Option, Some, None, slice_get}
use Rattle.sedck_call.specs.declared.given.Origin.{Origin}

abbrev pub end_from : ℕ → Option (List ℕ) → List ℕ
end_from from None = []
end_from from (Some word) = drop from word

-- the end of a word, from one of its bytes on
abbrev pub end_of_word : List (List ℕ) → Origin → List ℕ
end_of_word words at = end_from at.from (slice_get words at.word)
