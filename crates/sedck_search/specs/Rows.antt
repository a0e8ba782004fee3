-- The number of set bits in words: the contract of `count_bits` cites it.
use Rattle.std.specs.Prelude.{ℕ, ◌+◌, List, [], ◌∷◌, count_ones}

-- the number of bits that are set in the words
abbrev pub bit_count : List ℕ → ℕ
bit_count [] = 0
bit_count (word ∷ words) = count_ones word + bit_count words
