use Rattle.sedck_calls_in_files.proofs.Common.{IfOk, sym, subst, IsSaidOf, IsSaidOfText}
use Rattle.sedck_calls_in_files.proofs.judging.explain_found_script.Goals as goal

pub returns-in-Text-clause-said : goal.returns-in-Text-clause-said
returns-in-Text-clause-said c =
    let given = c.args.given.now in
    subst (λ script. IfOk c.explain_words.result (IsSaidOf given.file.now given.denied given.words.now script)) (sym c.in-Text.is)
    (subst (λ holes. IfOk c.explain_words.result (IsSaidOfText given.file.now given.denied given.words.now c.in-Text.text holes)) c.deref.ensures.value
    c.explain_words.ensures.said)
