use Rattle.sedck_calls_in_files.proofs.Common.{◌≡◌, position_in}
use Rattle.sedck_calls_in_files.proofs.unread_words.further_lines.Given as goal

-- a position of the text
abbrev pub invariant-loop-offset : goal.invariant-loop-offset
invariant-loop-offset l = l.position ≡ position_in l.text l.position.offset
