use Rattle.sedck_explanation.proofs.Common.{Spells, Only}
use Rattle.sedck_explanation.proofs.Answering.{err_is_err, locate_refused, judged_answer, search_found}
use Rattle.sedck_explanation.proofs.answer.answer_of.Goals as goal
use Rattle.sedck_explanation.proofs.answer.answer_of.Goals.{in-Some+in_ok-answer-in-Some, in-None+in_ok-answer-in-None}

pub returns-in-Err-clause-answer : goal.returns-in-Err-clause-answer
returns-in-Err-clause-answer c =
    let located = c.in-Err.ensures in
    locate_refused _ _ _ _ c.in_ok-refused_script-in-Err.ensures located.refused
    (record {
      first = located.first;
      placed = located.placed;
      too_long = λ long. err_is_err (located.too_long long);
      zero = λ place fits first. err_is_err (located.zero place fits first);
    })

pub returns-clause-answer : goal.returns-clause-answer
returns-clause-answer c =
    let spelled : Only Spells c.args.text.now c.in-Ok.located.script = record { spells = c.in-Ok.ensures.spelled; only = c.in-Ok.ensures.only } in
    elim c.match-certificate.branch [
      | in-Some+in_ok-answer-in-Some w ↦ rw (w.in-Some.is, w.answer-is) (judged_answer _ _ _ _ spelled w.in_ok-answer-in-Some.ensures)
      | in-None+in_ok-answer-in-None w ↦ rw (w.in-None.is, w.answer-is) (search_found _ _ _ spelled w.in_ok-answer-in-None.ensures)
    ]
