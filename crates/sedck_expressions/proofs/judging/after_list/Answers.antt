use Rattle.sedck_expressions.proofs.Common.{◌≡◌, ◌++◌, ap, sym, ◌∙◌, true, length, unread, begins, fault_in}
use Rattle.sedck_expressions.specs.BracketReading.{bracket_at}
use Rattle.sedck_expressions.proofs.Along.{second_same}
use Rattle.sedck_expressions.proofs.WholeBracket.{bracket_again}
use Rattle.sedck_expressions.proofs.ItemBeginnings.{bracket_front}
use Rattle.sedck_expressions.proofs.judging.after_list.Goals as goal

pub returns-in-Ok-clause-left : goal.returns-in-Ok-clause-left
returns-in-Ok-clause-left c bytes text after cut list some =
    second_same (sym c.in-Ok.ensures.value ∙ (ap bracket_at cut ∙ bracket_again text bytes after list some))

pub returns-in-Err-clause-left : goal.returns-in-Err-clause-left
returns-in-Err-clause-left c bytes text after cut list some =
    let read = ap bracket_at cut ∙ bracket_again text bytes after list some in
    absurd (cc (sym (ap (fault_in (length c.args.cursor.whole.now)) read) ∙ c.in-Err.ensures.value c.in-Err.ensures.memory))

pub returns-then-not-opens_list-clause-left : goal.returns-then-not-opens_list-clause-left
returns-then-not-opens_list-clause-left c bytes text after cut list some =
    let front = bracket_front text bytes list in
    let opens : begins "[" (unread c.args.cursor) ≡ true = ap (begins "[") (cut ∙ ap (λ x. x ++ after) front.1) in
    absurd (cc (opens, c.opens_list.ensures, c.if-not-opens_list.true))
