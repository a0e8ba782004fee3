use Rattle.sedck_commands.proofs.Common.{◌≡◌, ◌<◌, length, subst, sym, arith, unread}
use Rattle.sedck_commands.proofs.ResultLemmas.{if_err_from}
use Rattle.sedck_commands.proofs.FaultLemmas3.{begins_there, label_missing, brace_ends}
use Rattle.sedck_commands.specs.FirstFaults as fault
use Rattle.sedck_commands.proofs.labels.read_jump.Goals as goal
use Rattle.sedck_commands.proofs.labels.read_jump.Goals.{then-is_empty+in_ok-check_no_label, else-is_empty+in_ok-check_behind_label+in_ok-end_of_jump}

pub returns-in_err-check_no_label-clause-first : goal.returns-in_err-check_no_label-clause-first
returns-in_err-check_no_label-clause-first c =
    let none : length c.split_label-offset.result.0.now ≡ 0 = grind (arith, c.if-is_empty.ensures) in
    let label = c.split_label-offset.ensures in
    let (lacks, is) = c.in_err-check_no_label.ensures.first in
    if_err_from _ c.from_residual.result _ c.from_residual.ensures.1
    (subst (fault.JumpFault (length c.args.text.whole.now) (unread c.args.text)) (sym is)
    (fault.missing (label_missing label.parts none) lacks (begins_there c.args.text c.split_label-offset.result.2 label.same)))

pub returns-in_err-check_behind_label-clause-first : goal.returns-in_err-check_behind_label-clause-first
returns-in_err-check_behind_label-clause-first c =
    let some : 0 < length c.split_label-offset.result.0.now = grind (arith, c.if-is_empty.ensures) in
    let label = c.split_label-offset.ensures in
    let (b, more, cut, other, is) = c.in_err-check_behind_label.ensures.first in
    if_err_from _ c.from_residual-in_err-check_behind_label.result _ c.from_residual-in_err-check_behind_label.ensures.1
    (rw is (fault.byte (rw cut at label.parts) some other (rw cut at (begins_there c.args.text c.split_label-offset.result.2 label.same))))

pub returns-in_err-end_of_jump-clause-first : goal.returns-in_err-end_of_jump-clause-first
returns-in_err-end_of_jump-clause-first c = let label = c.split_label-offset.ensures in
    if_err_from _ c.from_residual-in_err-end_of_jump.result _ c.from_residual-in_err-end_of_jump.ensures.1
    (subst (λ w. fault.JumpFault (length w.now) (unread c.args.text) c.in_err-end_of_jump.field-0.0) label.same
    (c.in_err-end_of_jump.ensures.first _ _ label.parts (grind (arith, c.if-is_empty.ensures)) c.in_ok-check_behind_label.ensures.free))

pub returns-clause-ends : goal.returns-clause-ends
returns-clause-ends c = elim c.if-is_empty.branch [
  | then-is_empty+in_ok-check_no_label w ↦ rw w.t-22-is c.brace_behind-brace.ensures.at
  | else-is_empty+in_ok-check_behind_label+in_ok-end_of_jump w ↦ rw w.t-22-is
      (brace_ends c.brace_behind-brace.result c.split_label-offset.result.2 w.in_ok-end_of_jump.field-0 w.in_ok-end_of_jump.ensures.same
      w.in_ok-end_of_jump.ensures.read.0 c.brace_behind-brace.ensures.brace c.brace_behind-brace.ensures.at)
]
