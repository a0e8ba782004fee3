use Rattle.sedck_commands.proofs.Common.{refl, unread_ahead}
use Rattle.sedck_commands.proofs.OffsetLemmas.{lines_tail, tail_length, lines_parts}
use Rattle.sedck_commands.proofs.texts.split_lines.Goals as goal

pub overflow_sub-count : goal.overflow_sub-count
overflow_sub-count c = tail_length (lines_tail c.behind_lines.ensures.1)

pub returns-clause-lines : goal.returns-clause-lines
returns-clause-lines c = lines_parts _ _ _ _ c.behind_lines.ensures.1 c.unread-bytes.ensures refl refl (unread_ahead c.advance.ensures)
