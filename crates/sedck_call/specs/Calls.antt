-- The script of a call of sed, and its inputs (POSIX.1-2024 XCU sed, "Synopsis" and "Operands").
use Rattle.std.specs.Prelude.{◌≡◌, ℕ, Bool, true, false, ◌&&◌, List, [], ◌∷◌, ◌++◌, drop, flat_map, map, slice_get}
use Rattle.std.specs.List.{list_any}
use Rattle.sedck_call.specs.Words.{Outcome, Read, Refused, outcome_of}
use Rattle.sedck_call.specs.declared.option.CallOption.{CallOption}
use Rattle.sedck_call.specs.declared.option.CallOption.TheVariants as option
use Rattle.sedck_call.specs.declared.given.Given.{Given}
use Rattle.sedck_call.specs.declared.given.Given.TheVariants.{Alone, With, Operand}
use Rattle.sedck_call.specs.declared.call.Piece.{Piece}
use Rattle.sedck_call.specs.declared.call.Piece.TheVariants as piece
use Rattle.sedck_call.specs.declared.call.Call.{Call}
use Rattle.sedck_call.specs.declared.call.CallFault.{CallFault}
use Rattle.sedck_call.specs.declared.call.CallFault.TheVariants as fault
use Rattle.sedck_call.specs.declared.given.Origin.{Origin}

-- the piece of the script that an option gives
abbrev pub piece_of : Given → List Piece
piece_of (With option.Expression at) = piece.Text at ∷ []
piece_of (With option.File at) = piece.File at ∷ []
piece_of _ = []

abbrev pub operand_of : Given → List ℕ
operand_of (Operand n) = n ∷ []
operand_of _ = []

-- an option after which no script runs
abbrev pub runs_nothing : Given → Bool
runs_nothing (Alone option.Help n) = true
runs_nothing (Alone option.Version n) = true
runs_nothing _ = false

-- what the options give, or else the first operand
abbrev pub pieces_by : List Piece → List ℕ → List Piece
pieces_by [] (n ∷ more) = piece.Text (record { word = n; from = 0 }) ∷ []
pieces_by pieces operands = pieces

-- the operands but for the script
abbrev pub inputs_by : List Piece → List ℕ → List ℕ
inputs_by [] (n ∷ more) = more
inputs_by pieces operands = operands

abbrev pub pieces_of : List Given → List Piece
pieces_of given = pieces_by (flat_map piece_of given) (flat_map operand_of given)

abbrev pub inputs_of : List Given → List ℕ
inputs_of given = inputs_by (flat_map piece_of given) (flat_map operand_of given)

abbrev pub is_idle : List Given → Bool
is_idle given = list_any runs_nothing given

-- a script is missing, and one would run
abbrev pub LacksScript : List Given → Type 0
LacksScript given = (pieces_of given ≡ []) × (is_idle given ≡ false)

-- the call that these words are
pub record IsCall (words : List (List ℕ)) (call : Call) : Type 0 where
  pub given : outcome_of words ≡ Read call.given.items
  pub pieces : call.pieces.items ≡ pieces_of call.given.items
  pub inputs : call.inputs.items ≡ inputs_of call.given.items
  pub has_script : LacksScript call.given.items → ⊥

-- why they are none; memory may run out at any time
abbrev pub IsFault : List (List ℕ) → CallFault → Type 0
IsFault words (fault.BadWord n) = outcome_of words ≡ Refused n
IsFault words fault.NoScript = (given : List Given) × (outcome_of words ≡ Read given) × LacksScript given
IsFault words fault.OutOfMemory = Unit {0}
