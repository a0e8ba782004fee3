use Rattle.sedck_calls_in_files.proofs.Common.{◌≡◌, subst, Accepted, Agrees, IsSaidOf, IsSaidOfFound, IsAcceptedFound, denied_of, status_with, asked_of, is_set_in}
use Rattle.sedck_calls_in_files.proofs.Lists.{if_ok_both}
use Rattle.sedck_calls_in_files.proofs.Yes.{yes_of_found}
use Rattle.sedck_calls_in_files.proofs.judging.explain_found.Goals as goal

pub returns-clause-said : goal.returns-clause-said
returns-clause-said c =
    let file = c.args.file.now in
    let asked = asked_of c.args.scan.now in
    let found = c.args.found.now in
    let denied = denied_of found asked.denied in
    let before = c.in_ok-explanation.explanation in
    let said : IsSaidOf file denied found.words.items found.script before =
    subst (λ w. IsSaidOf file denied w found.script before) c.deref-3.ensures.value
    (subst (λ known. IsSaidOf file known c.deref-3.result.now found.script before) c.with_locale.ensures c.in_ok-explanation.ensures.said) in
    if_ok_both (Agrees before) (λ e. e.status ≡ status_with (is_set_in asked.assumed found) before.status) (IsSaidOfFound file asked found) c.with_values.result
    (λ e agrees status. record { before = before; is_said = said; agrees = agrees; is_status = status })
    c.with_values.ensures.agrees c.with_values.ensures.status

pub returns-clause-yes : goal.returns-clause-yes
returns-clause-yes c =
    let file = c.args.file.now in
    let asked = asked_of c.args.scan.now in
    let found = c.args.found.now in
    let denied = denied_of found asked.denied in
    let before = c.in_ok-explanation.explanation in
    let said : IsSaidOf file denied found.words.items found.script before =
    subst (λ w. IsSaidOf file denied w found.script before) c.deref-3.ensures.value
    (subst (λ known. IsSaidOf file known c.deref-3.result.now found.script before) c.with_locale.ensures c.in_ok-explanation.ensures.said) in
    if_ok_both (Agrees before) (λ e. e.status ≡ status_with (is_set_in asked.assumed found) before.status) (λ e. e.status ≡ Accepted → IsAcceptedFound file asked found)
    c.with_values.result
    (λ e agrees status yes. yes_of_found file asked found e (record { before = before; is_said = said; agrees = agrees; is_status = status }) yes)
    c.with_values.ensures.agrees c.with_values.ensures.status
