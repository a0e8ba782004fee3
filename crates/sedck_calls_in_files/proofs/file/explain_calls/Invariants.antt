use Rattle.sedck_calls_in_files.proofs.Common.{◌≡◌, take, position_in, asked_of, IsWorst}
use Rattle.sedck_calls_in_files.proofs.file.explain_calls.Given as goal

-- the status so far, at a position of the text
abbrev pub invariant-loop-call : goal.invariant-loop-call
invariant-loop-call g l =
    IsWorst l.asked.file.text.now (asked_of l.asked.scan.now) l.fn.known (take l.call-index l.calls) l.status
    × (l.position ≡ position_in l.asked.file.text.now l.position.offset)
