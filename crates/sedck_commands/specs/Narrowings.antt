-- What may be asked of a script's text besides its grammar. `ReadAlike` asks that seds take the text, and read it alike. A yes rests on the grammar with
-- nothing asked.
use Rattle.std.specs.Prelude.{ℕ, Bool, List}
use Rattle.sedck_bre.specs.Tree.{Tree}
use Rattle.sedck_commands.specs.Program.{Pattern, Part, Address, WrittenVerb, Command}

-- Of what something may be asked. A text is what begins there, and rest or after is what follows the part.
pub data Asked : Type 0 where
  Script : (text : List ℕ) → Asked
  Cut : (delimiter : ℕ) → (text expression rest : List ℕ) → Asked
  Matched : (expression : Tree) → Asked
  Listed : (delimiter : ℕ) → (text rest : List ℕ) → Asked
  Replaced : Pattern → (replacement : List Part) → Asked
  Named : (file rest : List ℕ) → Asked
  AfterFlags : (rest : List ℕ) → Asked
  AfterLabel : (after : List ℕ) → Asked
  AfterJump : (after rest : List ℕ) → Asked
  Taken : WrittenVerb → Address → (negated : Bool) → Asked
  Commented : (comment : List ℕ) → Asked
  Braced : (braced : Bool) → (depth : ℕ) → Asked
  Resolved : List Command → Asked

-- what is asked of each
abbrev pub Narrowings : Type 1
Narrowings = Asked → Type 0

abbrev pub nothing_asked : Narrowings
nothing_asked _ = Unit {0}
