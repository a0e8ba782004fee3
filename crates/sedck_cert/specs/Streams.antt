-- What a source gives and a sink takes, where it is known.
use Rattle.std.specs.Prelude.{◌≡◌, ℕ, Bool, IsTrue, List, ◌++◌, Option, Result, Ok, Err}
use Rattle.std.specs.Io.KnownBytes.{Appends}

-- on an error it has failed; else it has failed only if it had before
abbrev pub ReportsFailure : {T E : Type 0} → Result T E → Bool → Bool → Type 0
ReportsFailure (Ok x) before after = after ≡ before
ReportsFailure (Err e) before after = IsTrue after

-- the bytes are a prefix of the text
abbrev pub IsPrefixOf : List ℕ → List ℕ → Type 0
IsPrefixOf front text = (rest : List ℕ) × (text ≡ front ++ rest)

-- known bytes grow by a prefix of the text
abbrev pub AppendsPrefix : Option (List ℕ) → Option (List ℕ) → List ℕ → Type 0
AppendsPrefix before after text = (front : List ℕ) × IsPrefixOf front text × Appends before after front
