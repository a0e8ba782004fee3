-- Sets of bytes by their bits.
use Rattle.std.specs.Prelude.{◌≡◌, ℕ, ◌+◌, ◌*◌, ◌^◌, ◌<◌, ◌/◌, ◌%◌, ◌==◌, ◌&&◌, Bool, List, length, nat_lt, if◌then◌else◌, slice_index, All}
use Rattle.std.specs.Int.{bit_at}

abbrev pub bit_of : Bool → ℕ
bit_of b = if b then 1 else 0

-- the set has just the bytes that pass the test
abbrev pub HasJust : List ℕ → (ℕ → Bool) → Type 0
HasJust words test = (b : ℕ) → b < 256 → bit_at (slice_index words (b / 64)) (b % 64) ≡ bit_of (test b)

-- the bits of one word of the bytes below a limit
abbrev pub HasBitsBelow : ℕ → ℕ → ℕ → Type 0
HasBitsBelow limit index word = (k : ℕ) → k < 64 → bit_at word k ≡ bit_of (nat_lt (64 * index + k) limit)

-- four words of 64 bits
abbrev pub AreWords : List ℕ → Type 0
AreWords words = (length words ≡ 4) × All (λ word. word < 2 ^ 64) words

-- each of the four words is 0
abbrev pub has_no_word : List ℕ → Bool
has_no_word words = (slice_index words 0 == 0) && ((slice_index words 1 == 0) && ((slice_index words 2 == 0) && (slice_index words 3 == 0)))
