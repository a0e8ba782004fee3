-- What the readers of delimited parts say of what they read.
use Rattle.std.specs.Prelude.{◌≡◌, ◌≢◌, ℕ, ◌==◌, List, ◌∷◌, ◌++◌, drop, Option, Some, None, IsTrue, if◌then◌else◌}
use Rattle.sedck_commands.specs.Cuts.{newline, backslash, can_be_escaped}
use Rattle.sedck_commands.specs.Program.{Pattern}
use Rattle.sedck_text.specs.Cursors.{unread}
use Rattle.sedck_text.specs.declared.cursor.Cursor.{Cursor}
use Rattle.sedck_commands.specs.Parts.{DelimitedExpression, ExpressionText}
use Rattle.sedck_commands.specs.Private.Alike.{IsPattern}
use Rattle.sedck_commands.specs.FirstFaults.{CutFault}
use Rattle.sedck_commands.specs.declared.fault.ScriptFault.{ScriptFault}
use Rattle.sedck_commands.specs.declared.delimited.Piece.{Piece}
use Rattle.sedck_commands.specs.declared.delimited.Piece.TheVariants as piece

-- the first piece of a delimited part, and what follows it
abbrev pub IsPiece : ℕ → List ℕ → Piece → List ℕ → Type 0
IsPiece delimiter text piece.End rest = text ≡ delimiter ∷ rest
IsPiece delimiter text (piece.Byte b) rest = (text ≡ b ∷ rest) × (b ≢ delimiter) × (b ≢ backslash) × (b ≢ newline)
IsPiece delimiter text piece.Escaped rest = (text ≡ backslash ∷ delimiter ∷ rest) × IsTrue (can_be_escaped delimiter)
IsPiece delimiter text (piece.Pair b) rest = (text ≡ backslash ∷ b ∷ rest) × (b ≢ delimiter)

-- a pattern after its opening delimiter, and what follows it
abbrev pub PatternText : ℕ → List ℕ → Pattern → List ℕ → Type 0
PatternText delimiter text pattern rest = (expression : List ℕ) × ExpressionText delimiter text expression rest × IsPattern expression pattern

-- These bytes of a delimited part, an expression or a list, have been read, and rest is left.
abbrev pub IsReadUpTo : (List ℕ → List ℕ → List ℕ → Type 0) → List ℕ → List ℕ → List ℕ → Type 0
IsReadUpTo Delimited text bytes rest = (more after : List ℕ) → Delimited rest more after → Delimited text (bytes ++ more) after

-- The bytes of an expression between the cursors have been read, without an escaped delimiter. What is wrong from there on is wrong with the expression.
pub record IsWrittenUpTo (delimiter : ℕ) (text rest : Cursor) : Type 0 where
  pub same : rest.whole ≡ text.whole
  pub written : List ℕ
  pub cut : unread text ≡ written ++ unread rest
  pub passed : IsReadUpTo (DelimitedExpression delimiter) (unread text) written (unread rest)
  pub onward : (size opening : ℕ) (fault : ScriptFault) → CutFault size opening delimiter (unread rest) fault
      → CutFault size opening delimiter (unread text) fault

-- These bytes of an expression have been read of the text, and rest is left: its first escaped delimiter is at the place in the
-- whole, or there is none, and the text has the very bytes.
pub data IsFirstEscape (delimiter : ℕ) (whole text : List ℕ) : List ℕ → List ℕ → Option ℕ → Type 0 where
  as_written : {bytes rest : List ℕ} → text ≡ bytes ++ rest → IsFirstEscape delimiter whole text bytes rest None
  escaped : {bytes rest : List ℕ} {place : ℕ} (front behind more : List ℕ) → text ≡ front ++ backslash ∷ delimiter ∷ behind
      → bytes ≡ front ++ delimiter ∷ more → drop place whole ≡ backslash ∷ delimiter ∷ behind
      → IsFirstEscape delimiter whole text bytes rest (Some place)

-- what a backslash and this byte mean in a list of `y`
abbrev pub list_escape : ℕ → Option ℕ
list_escape b = if b == backslash then Some backslash else if b == 110 then Some newline else None
