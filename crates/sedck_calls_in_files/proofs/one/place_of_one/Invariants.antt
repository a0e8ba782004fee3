use Rattle.sedck_calls_in_files.proofs.Common.{◌≡◌, position_in}
use Rattle.sedck_calls_in_files.proofs.one.place_of_one.Given as goal

-- a position of the text
abbrev pub invariant-loop-place : goal.invariant-loop-place
invariant-loop-place l = l.position ≡ position_in l.text l.position.offset
