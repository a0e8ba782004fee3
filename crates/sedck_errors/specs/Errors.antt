-- Where in a script an error is, this project's own: at a fault of its text, where a loop begins, or at the edge for which a certificate
-- is rejected.
use Rattle.std.specs.Prelude.{◌≡◌, ◌≢◌, ℕ, zero, suc, ◌+◌, List, [], ◌∷◌, Option, Some, None, slice_get}
use Rattle.sedck_flow.specs.declared.graph.Node.{Node}
use Rattle.sedck_bre.specs.FaultWords as expressions
use Rattle.sedck_expressions.specs.declared.fault.ReFault.{ReFault}
use Rattle.sedck_script.specs.Parts.{DelimitedExpression}
use Rattle.sedck_commands.specs.Parts.DelimitedExpression.{ends, byte, escaped, pair}
use Rattle.sedck_script.specs.FaultWords.{fault_place}
use Rattle.sedck_script.specs.Faults.{IsPlaced, IsRefusedExpression}
use Rattle.sedck_commands.specs.declared.fault.ScriptFault.{ScriptFault}
use Rattle.sedck_commands.specs.declared.fault.ScriptFault.TheVariants.{BadExpression, OutOfMemory}
use Rattle.sedck_cert.specs.declared.checking.Rejection.{Rejection}
use Rattle.sedck_cert.specs.declared.checking.Rejection.TheVariants.{LeavesRanked, NotLowered}
use Rattle.sedck_report.specs.declared.places.Position.{Position}

-- the position of a node's command, and none for the script's end
abbrev pub node_position : List Position → Node → Option Position
node_position positions node = slice_get positions node.at

-- where a loop begins
abbrev pub first_position : List Position → List Node → Option Position
first_position positions [] = None
first_position positions (node ∷ more) = node_position positions node

-- the command at which the edge begins for which a certificate is rejected; any other rejection is of the whole
abbrev pub rejection_position : List Position → Rejection → Option Position
rejection_position positions (LeavesRanked edge) = node_position positions edge.from
rejection_position positions (NotLowered edge) = node_position positions edge.from
rejection_position positions _ = None

-- How many bytes of the text after the opening delimiter are before the byte with this index in the expression: an escaped delimiter
-- is one byte of the expression and two of the text.
abbrev pub bytes_before : {delimiter : ℕ} {text expression rest : List ℕ} → DelimitedExpression delimiter text expression rest → ℕ → ℕ
bytes_before cut zero = 0
bytes_before (ends is) (suc index) = 0
bytes_before (byte other plain inside more) (suc index) = 1 + bytes_before more index
bytes_before (escaped mark is allowed more) (suc index) = 2 + bytes_before more index
bytes_before (pair mark other inside more) (suc zero) = 1
bytes_before (pair mark other inside more) (suc (suc index)) = 2 + bytes_before more index

-- the offset of an expression's byte in the text, where the expression begins at the place
abbrev pub IsExpressionOffset : {text : List ℕ} {place : ℕ} {cause : ReFault} → IsRefusedExpression text place cause → ℕ → Type 0
IsExpressionOffset {place = place} {cause = cause} refused offset =
    (index : ℕ) × (expressions.fault_place cause ≡ Some index) × (offset ≡ place + bytes_before refused.written.cut index)

-- The offset of a fault in the script's text. The place of a fault inside of an expression is one in the expression.
abbrev pub IsFaultOffset : List ℕ → ScriptFault → ℕ → Type 0
IsFaultOffset text (BadExpression place cause) offset = (refused : IsRefusedExpression text place cause) × IsExpressionOffset refused offset
IsFaultOffset text why offset = fault_place why ≡ Some offset

-- a fault that is reported has a place in the text
abbrev pub IsReportable : List ℕ → ScriptFault → Type 0
IsReportable text why = (why ≢ OutOfMemory) × IsPlaced text why
