-- Words for the reader alone.
use Rattle.std.specs.Prelude.{◌≡◌, ℕ, List, ◌∷◌, ◌++◌, Contains, Option, MatchOption}
use Rattle.std.specs.Borrow.{Bor}

-- the text is cut at its first such byte
pub record IsCut (byte : ℕ) (text front rest : List ℕ) : Type 0 where
  pub none : Contains front byte → ⊥
  pub is_text : text ≡ front ++ byte ∷ rest

-- what follows the words and a space, if the text begins with them
abbrev pub IsBehind : List ℕ → List ℕ → Option (Bor (List ℕ)) → Type 0
IsBehind text words found = MatchOption found ((rest : List ℕ) → text ≡ words ++ 32 ∷ rest → ⊥) (λ rest. text ≡ words ++ 32 ∷ rest.now)
