-- What a byte is in a part of a script that a backslash escapes in the text that was given.
use Rattle.std.specs.Prelude.{◌≡◌, ◌≢◌, ◌⊎◌, ℕ, List, ◌∷◌}
use Rattle.sedck_text.specs.Bytes.{backslash, ascii}

-- the part begins with it, and goes on with the rest
abbrev pub IsEscapeGiven : ℕ → ℕ → ℕ → List ℕ → List ℕ → Type 0
IsEscapeGiven given other b part rest =
    ((b ≡ given) × (b ≢ ascii "|") × (part ≡ b ∷ rest)) ⊎ ((b ≢ given) × (b ≢ other) × (part ≡ backslash ∷ b ∷ rest))
