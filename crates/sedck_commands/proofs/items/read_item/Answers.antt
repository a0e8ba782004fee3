use Rattle.sedck_commands.proofs.ResultLemmas.{if_ok_more, if_err_more}
use Rattle.sedck_commands.proofs.ProgressLemmas.{progress_at, at_front, front_comment}
use Rattle.sedck_commands.proofs.Common.{refl, ap, ◌∙◌, ◌∷◌, unread, length, subst, CommentFault}
use Rattle.sedck_commands.specs.FirstFaults as first
use Rattle.sedck_commands.proofs.items.read_item.Goals as goal

pub returns-then-first-eq35-clause-progress : goal.returns-then-first-eq35-clause-progress
returns-then-first-eq35-clause-progress c = if_ok_more c.read_comment.result
    (λ rest x. progress_at c.requires.progress
    (front_comment c.requires.progress.front c.requires.first c.if-first-eq35.true x.1)
    (λ fault y. first.comment (at_front (c.requires.first ∙ ap (λ b. b ∷ unread c.args.behind) c.if-first-eq35.true) refl) x.1.0 x.1.1 y))
    c.read_comment.ensures.read

pub returns-then-first-eq35-clause-first : goal.returns-then-first-eq35-clause-first
returns-then-first-eq35-clause-first c = if_err_more c.read_comment.result
    (λ fault x memory. c.requires.progress.faults fault
    (first.bad_comment (at_front (c.requires.first ∙ ap (λ b. b ∷ unread c.args.behind) c.if-first-eq35.true) refl)
    (subst (λ w. CommentFault (length w.now) (unread c.args.behind) fault) c.requires.behind x))) c.read_comment.ensures.first
