use Rattle.std.proofs.Common.{◌≤◌, ◌<◌, ◌+◌, ◌-◌, ℕ, List, length, drop}
use Rattle.sedck_commands.specs.Faults.{StandsAt}
use Rattle.sedck_commands.specs.Parts.{DelimitedExpression}
use Rattle.sedck_errors.specs.Errors.{bytes_before}
use Rattle.sedck_errors.proofs.Offsets.{IsBefore}
use Rattle.sedck_errors.proofs.refusals.offset_in_expression.Given as goal

-- so much of the text is left, and so many bytes of the expression are before the one that is looked for
abbrev pub invariant-loop-left : goal.invariant-loop-left
invariant-loop-left l = record {
  within : length l.rest ≤ length l.text;
  before : (delimiter : ℕ) (expression after : List ℕ) → StandsAt l.text (l.start - 1) delimiter
      → (cut : DelimitedExpression delimiter (drop l.start l.text) expression after) → l.offset < length expression
      → IsBefore delimiter l.text l.rest after l.left (l.start + bytes_before cut l.offset);
}

abbrev pub decreases-loop-left : goal.decreases-loop-left
decreases-loop-left l = l.left
