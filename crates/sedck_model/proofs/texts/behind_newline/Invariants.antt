use Rattle.sedck_model.proofs.Common.{◌≡◌, drop, newline}
use Rattle.sedck_flow.specs.Run.{after_end}
use Rattle.sedck_model.proofs.texts.behind_newline.Given as goal

-- no newline was passed
abbrev pub invariant-loop-i : goal.invariant-loop-i
invariant-loop-i l = after_end newline (drop l.i l.text) ≡ after_end newline l.text
