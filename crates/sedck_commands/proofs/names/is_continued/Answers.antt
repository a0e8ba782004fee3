use Rattle.sedck_commands.proofs.Common.{arith}
use Rattle.sedck_commands.proofs.LineBytes.{not_continued}
use Rattle.sedck_commands.proofs.names.is_continued.Goals.{then-is_empty-via-then-is_empty, then-is_empty-via-else-is_empty+then-line-ne92}
use Rattle.sedck_commands.proofs.names.is_continued.Goals as goal

pub returns-then-is_empty : goal.returns-then-is_empty
returns-then-is_empty c = not_continued c.args.line.now (λ last. elim c.then-is_empty.branch [
  | then-is_empty-via-then-is_empty w ↦ grind (arith, c.is_empty.ensures, w.if-is_empty.true, last.0)
  | then-is_empty-via-else-is_empty+then-line-ne92 w ↦ w.if-line-ne92.true last.1
])
