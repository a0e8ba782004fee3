-- Sets of nodes as bits in words: node i is bit i mod 64 of word i / 64. Nodes are numbered by their order.
use Rattle.std.specs.Prelude.{◌≡◌, ◌≢◌, ◌⊎◌, ℕ, ◌/◌, ◌%◌, ◌<◌, ◌≤◌, ◌^◌, ◌==◌, Bool, true, false, List, length, slice_index, bit_or, All}
use Rattle.std.specs.Int.{bit_at}

-- whether the set has the node; no node lies after its words
unfoldable pub has : List ℕ → ℕ → Bool
has words node = bit_at (slice_index words (node / 64)) (node % 64) == 1

-- a set of 16,384 nodes: 256 words of 64 bits
pub record IsNodeSet (words : List ℕ) : Type 0 where
  pub long : length words ≡ 256
  pub small : All (λ word. word < 2 ^ 64) words

-- the words before this one have no node
abbrev pub AreZeroBefore : List ℕ → ℕ → Type 0
AreZeroBefore words first = (j : ℕ) → j < first → slice_index words j ≡ 0

-- the words from this one on have no node
abbrev pub AreZeroFrom : List ℕ → ℕ → Type 0
AreZeroFrom words end = (j : ℕ) → end ≤ j → slice_index words j ≡ 0

-- the set has no node
abbrev pub IsEmpty : List ℕ → Type 0
IsEmpty words = (node : ℕ) → has words node ≡ false

-- how a set differs from one before it: the node is in it now or not, and all other nodes are as before
pub record HasChanged (before after : List ℕ) (node : ℕ) (now : Bool) : Type 0 where
  pub at : has after node ≡ now
  pub others : (i : ℕ) → i ≢ node → has after i ≡ has before i

-- the set has no node from this one on
abbrev pub HasNoneFrom : List ℕ → ℕ → Type 0
HasNoneFrom words from = (i : ℕ) → from ≤ i → has words i ≡ false

-- the first node of the set from this one on
abbrev pub IsNext : List ℕ → ℕ → ℕ → Type 0
IsNext words from next = (from ≤ next) × (next < 16384) × (has words next ≡ true) × ((k : ℕ) → from ≤ k → k < next → has words k ≡ false)

-- a set has just the nodes of two others
pub record IsUnion (left right both : List ℕ) : Type 0 where
  pub has_left : (i : ℕ) → has left i ≡ true → has both i ≡ true
  pub has_right : (i : ℕ) → has right i ≡ true → has both i ≡ true
  pub no_other : (i : ℕ) → has both i ≡ true → (has left i ≡ true) ⊎ (has right i ≡ true)

-- each word has the bits of two others
pub record AreWordsOfBoth (left right both : List ℕ) : Type 0 where
  pub long : length both ≡ length left
  pub each : (j : ℕ) → j < length left → slice_index both j ≡ bit_or (slice_index left j) (slice_index right j)
