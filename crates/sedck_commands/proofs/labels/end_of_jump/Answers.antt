use Rattle.sedck_commands.proofs.Common.{◌∙◌, ap, sym, begins_braced_comment, unread_length}
use Rattle.sedck_commands.proofs.ResultLemmas.{if_err_from}
use Rattle.sedck_commands.specs.FirstFaults as fault
use Rattle.sedck_commands.proofs.labels.end_of_jump.Goals as goal

pub returns-in_err-rest-clause-first : goal.returns-in_err-rest-clause-first
returns-in_err-rest-clause-first c = if_err_from _ c.from_residual.result _ c.from_residual.ensures.1
    (λ text name at some ends. fault.ends at some ends c.in_err-rest.ensures.first)

pub returns-then-begins_braced_comment-clause-first : goal.returns-then-begins_braced_comment-clause-first
returns-then-begins_braced_comment-clause-first c = λ text name at some ends. rw c.offset.ensures
    (fault.comment at some ends c.in_ok-rest.ensures.read
    (ap begins_braced_comment (sym c.unread.ensures) ∙ sym c.begins_braced_comment.ensures ∙ c.if-begins_braced_comment.true) (unread_length c.args.behind))
