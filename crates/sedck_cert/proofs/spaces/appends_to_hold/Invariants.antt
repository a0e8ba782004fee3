use Rattle.sedck_cert.proofs.SpaceLemmas.{NoneAppends}
use Rattle.sedck_cert.proofs.spaces.appends_to_hold.Given as goal

-- none of the commands so far
abbrev pub invariant-loop-command : goal.invariant-loop-command
invariant-loop-command l = NoneAppends l.script l.command-index
