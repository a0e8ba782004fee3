use Rattle.sedck_calls_in_files.proofs.Common.{◌≡◌, ◌∙◌, ap, subst, on_ok, asked_of, IsWorst, TextStatus}
use Rattle.sedck_calls_in_files.specs.Scanned.{unread_status}
use Rattle.sedck_calls_in_files.proofs.file.explain_text.Goals as goal

pub returns : goal.returns
returns g c =
    let text = c.args.asked.now.file.text.now in
    let asked = asked_of c.args.asked.now.scan.now in
    let found = c.in_ok-found.found in
    let first = c.in_ok-status.status in
    let is_first : first ≡ unread_status found.unread.items = c.in_ok-status.ensures ∙ ap unread_status c.deref.ensures.value in
    on_ok (IsWorst text asked first c.deref-3.result.now)
    (TextStatus (g.F.Finder.found c.args.finder.now c.args.asked.now.file.path.now text) asked text) c.explain_calls.result
    (λ status worst. (
      found,
      c.in_ok-found.ensures,
      subst (λ known. IsWorst text asked known found.calls.items status) is_first
          (subst (λ calls. IsWorst text asked first calls status) c.deref-3.ensures.value worst),
    ))
    c.explain_calls.ensures
