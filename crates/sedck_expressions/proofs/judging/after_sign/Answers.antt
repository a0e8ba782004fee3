use Rattle.sedck_expressions.proofs.Common.{ap, sym, ◌∙◌, drop, begins}
use Rattle.sedck_expressions.specs.IntervalReading.{interval_at}
use Rattle.sedck_expressions.proofs.Along.{star_left, interval_opens, third_same}
use Rattle.sedck_expressions.proofs.IntervalLemmas.{interval_again}
use Rattle.sedck_expressions.proofs.judging.after_sign.Goals as goal

pub returns-then-is_star-clause-left : goal.returns-then-is_star-clause-left
returns-then-is_star-clause-left c least most text after cut count =
    c.ahead.ensures.left ∙ ap (drop 1) cut ∙ star_left text after least most count (sym (ap (begins "*") cut) ∙ sym c.is_star.ensures ∙ c.if-is_star.true)

pub returns-in-Some-clause-left : goal.returns-in-Some-clause-left
returns-in-Some-clause-left c least most text after cut count =
    let opens = interval_opens text after least most count (sym (ap (begins "*") cut) ∙ sym c.is_star.ensures ∙ c.if-is_star.false) in
    third_same (c.in-Some.ensures.value ∙ ap interval_at cut ∙ interval_again text least most after opens count)

pub returns-in-None-clause-left : goal.returns-in-None-clause-left
returns-in-None-clause-left c least most text after cut count =
    let opens = interval_opens text after least most count (sym (ap (begins "*") cut) ∙ sym c.is_star.ensures ∙ c.if-is_star.false) in
    let read = ap interval_at cut ∙ interval_again text least most after opens count in
    absurd (cc (c.in-None.ensures.value, read))
