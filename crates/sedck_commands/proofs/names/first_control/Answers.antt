use Rattle.sedck_commands.proofs.Common.{sym, ◌∙◌}
use Rattle.sedck_commands.proofs.ControlLemmas.{control_here, control_later}
use Rattle.sedck_commands.specs.FirstFaults as fault
use Rattle.sedck_commands.proofs.names.first_control.Goals as goal

pub returns-then-begins_control : goal.returns-then-begins_control
returns-then-begins_control c =
    c.bytes.invariant.first _
    (fault.FirstControl.here (control_here c.bytes.rest.now c.in-len1-up.len_at_least (sym c.begins_control.ensures ∙ c.if-begins_control.true)))

pub bytes-preserved : goal.bytes-preserved
bytes-preserved c =
    let step = control_later c.bytes.rest.now c.in-len1-up.len_at_least (sym c.begins_control.ensures ∙ c.if-begins_control.false) in
    record { clean = step.0 ∙ c.bytes.invariant.clean; first = λ behind f. c.bytes.invariant.first behind (step.1 behind f) }
