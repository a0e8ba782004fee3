use Rattle.sedck_calls_in_files.proofs.Common.{◌≡◌, position_in}
use Rattle.sedck_calls_in_files.proofs.file.report_places.Given as goal

-- a position of the text
abbrev pub invariant-loop-offset : goal.invariant-loop-offset
invariant-loop-offset g l = l.position ≡ position_in l.asked.file.text.now l.position.offset
