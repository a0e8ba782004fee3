-- Bracket lists in a text that is no expression, as some seds heed them where they look for the end of a part. This project's own.
use Rattle.std.specs.Prelude.{◌≡◌, ◌≢◌, ℕ, ◌==◌, not, List, [], ◌∷◌}
use Rattle.sedck_text.specs.Bytes.{backslash, ascii}
use Rattle.sedck_commands.specs.Cuts.{Longest}

-- A bracket list begins after its `[` with bytes that don't close it, whatever they are: one, or two where the first is a `^`.
pub data BracketBegins : List ℕ → List ℕ → Type 0 where
  negated : {a b : ℕ} {text : List ℕ} → a ≡ ascii "^" → BracketBegins (a ∷ b ∷ text) text
  plain : {b : ℕ} {text : List ℕ} → b ≢ ascii "^" → BracketBegins (b ∷ text) text

-- a bracket list after its `[`, and what follows the `]` that closes it
pub record BracketList (text behind : List ℕ) : Type 0 where
  pub begins : List ℕ
  pub inside : List ℕ
  pub first : BracketBegins text begins
  pub run : Longest (λ b. not (b == ascii "]")) begins inside (ascii "]" ∷ behind)

-- Up to the rest, each bracket list of the text is closed. A `[` opens one, but for the byte after a backslash, which is passed.
pub data BracketsClose : List ℕ → List ℕ → Type 0 where
  here : {text : List ℕ} → BracketsClose text text
  byte : {b : ℕ} {text rest : List ℕ} → b ≢ ascii "[" → b ≢ backslash → BracketsClose text rest → BracketsClose (b ∷ text) rest
  pair : {a b : ℕ} {text rest : List ℕ} → a ≡ backslash → BracketsClose text rest → BracketsClose (a ∷ b ∷ text) rest
  last : {a : ℕ} → a ≡ backslash → BracketsClose (a ∷ []) []
  list : {b : ℕ} {text behind rest : List ℕ} → b ≡ ascii "[" → BracketList text behind → BracketsClose behind rest → BracketsClose (b ∷ text) rest
