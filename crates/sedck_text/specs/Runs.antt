-- Longest runs of bytes that pass a test.
use Rattle.std.specs.Prelude.{◌≡◌, ℕ, Bool, not, List, [], ◌∷◌, ◌++◌, IsTrue}
use Rattle.std.specs.List.{list_all}

-- the text is empty, or its first byte passes the test
abbrev pub IsEmptyOr : (ℕ → Bool) → List ℕ → Type 0
IsEmptyOr test [] = Unit {0}
IsEmptyOr test (b ∷ text) = IsTrue (test b)

-- front is the longest prefix of the text whose bytes all pass the test, and rest is what follows it
pub record Longest (test : ℕ → Bool) (text front rest : List ℕ) : Type 0 where
  pub cut : text ≡ front ++ rest
  pub passes : IsTrue (list_all test front)
  pub stops : IsEmptyOr (λ b. not (test b)) rest
