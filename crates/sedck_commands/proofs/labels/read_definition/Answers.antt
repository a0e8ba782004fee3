use Rattle.sedck_commands.proofs.Common.{◌≡◌, ◌<◌, length, arith}
use Rattle.sedck_commands.proofs.ResultLemmas.{if_err_from}
use Rattle.sedck_commands.proofs.FaultLemmas3.{begins_there, label_missing, missing_begins}
use Rattle.sedck_commands.specs.FirstFaults as fault
use Rattle.sedck_commands.proofs.labels.read_definition.Goals as goal

pub returns-then-is_empty-clause-first : goal.returns-then-is_empty-clause-first
returns-then-is_empty-clause-first c =
    let label = c.split_label-offset.ensures in
    let none : length c.split_label-offset.result.0.now ≡ 0 = grind (arith, c.if-is_empty.ensures) in
    fault.missing (label_missing label.parts none) (missing_begins _ _ _ label.offset none (begins_there c.args.text c.split_label-offset.result.2 label.same))

pub returns-in_err-check_behind_definition-clause-first : goal.returns-in_err-check_behind_definition-clause-first
returns-in_err-check_behind_definition-clause-first c =
    let some : 0 < length c.split_label-offset.result.0.now = grind (arith, c.if-is_empty.ensures) in
    let label = c.split_label-offset.ensures in
    let (b, more, cut, other, is) = c.in_err-check_behind_definition.ensures.first in
    if_err_from _ c.from_residual.result _ c.from_residual.ensures.1
    (rw is (fault.byte (rw cut at label.parts) some other (rw cut at (begins_there c.args.text c.split_label-offset.result.2 label.same))))
