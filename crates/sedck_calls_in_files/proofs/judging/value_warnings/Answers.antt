use Rattle.sedck_calls_in_files.proofs.Common.{◌∙◌, All, All-push, All-append, ap, subst, sym, IsWarningIn}
use Rattle.std.proofs.lemmas.List.Elements.{All-nil}
use Rattle.sedck_calls_in_files.proofs.judging.value_warnings.Goals as goal
use Rattle.sedck_calls_in_files.proofs.judging.value_warnings.Goals.{in-Some+in_ok-warning+in_ok-push, in_default}

pub returns : goal.returns
returns c =
    let P = IsWarningIn c.args.given.now.file.now in
    let none : All P c.new-warnings.result.items = subst (All P) (sym c.new-warnings.ensures.items) (All-nil P) in
    let first : All P c.match-found.warnings.items =
    elim c.match-found.branch [
      | in-Some+in_ok-warning+in_ok-push w ↦
          subst (All P) (sym (ap (λ v. v.items) w.warnings-is ∙ w.in_ok-push.ensures.items))
          (All-push P c.new-warnings.result.items w.in_ok-warning.warning none w.in_ok-warning.ensures.finding)
      | in_default w ↦ subst (All P) (sym (ap (λ v. v.items) w.warnings-is)) none
    ] in
    subst (All P) (sym c.in_ok-append.ensures.items) (All-append P c.match-found.warnings.items c.in_ok-notes.notes.items first c.in_ok-notes.ensures)
