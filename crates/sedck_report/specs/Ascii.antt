-- JSON in printable ASCII.
use Rattle.std.specs.Prelude.{◌≡◌, ◌≤◌, ℕ, List, [], ◌∷◌, ◌++◌, All}

-- what a terminal shows as a character of its own: printable ASCII, a blank too
abbrev pub IsPrintable : ℕ → Type 0
IsPrintable b = (32 ≤ b) × (b ≤ 126)

-- nothing was added that isn't printable
abbrev pub StaysPrintable : List ℕ → List ℕ → Type 0
StaysPrintable before after = All IsPrintable before → All IsPrintable after

-- a line of printable bytes, with its newline
abbrev pub IsPrintableLine : List ℕ → Type 0
IsPrintableLine bytes = (front : List ℕ) × (bytes ≡ front ++ (10 ∷ [])) × All IsPrintable front
