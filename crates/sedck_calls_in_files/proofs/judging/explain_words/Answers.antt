use Rattle.sedck_calls_in_files.proofs.Common.{◌∙◌, inl, ℕ, List, map, ap, subst, IsCall, words_of, IsSaidOfCall, IsSaidOfText}
use Rattle.sedck_calls_in_files.proofs.Lists.{if_ok_both}
use Rattle.sedck_calls_in_files.proofs.judging.explain_words.Goals as goal

pub returns-in-Ok-clause-said : goal.returns-in-Ok-clause-said
returns-in-Ok-clause-said c =
    let call = c.in-Ok.call in
    let words = words_of c.args.given.now.words.now in
    let is_call : IsCall words call = subst (λ (w : List (List ℕ)). IsCall w call) (ap (map (λ word. word.now)) c.deref.ensures.value ∙ c.in_ok-bytes.ensures) c.in-Ok.ensures.call in
    let said = IsSaidOfCall c.args.given.now.file.now c.args.given.now.denied c.args.given.now.words.now call c.args.text.now c.args.holes.now in
    if_ok_both said said (IsSaidOfText c.args.given.now.file.now c.args.given.now.denied c.args.given.now.words.now c.args.text.now c.args.holes.now) c.explain_script.result
    (λ e first second. inl (call, is_call, first)) c.explain_script.ensures.said c.explain_script.ensures.said
