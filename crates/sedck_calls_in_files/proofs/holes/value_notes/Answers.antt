use Rattle.sedck_calls_in_files.proofs.Common.{◌∙◌, All, All-push, ap, subst, sym, IsWarningIn}
use Rattle.sedck_calls_in_files.proofs.holes.value_notes.Goals as goal

pub loop-one-preserved : goal.loop-one-preserved
loop-one-preserved c = (
  ap (λ file. file.now) c.value_note.ensures.file ∙ c.loop-one.invariant.0,
  subst (All (IsWarningIn c.args.file.now)) (sym c.in_ok-push.ensures.items)
      (All-push (IsWarningIn c.args.file.now) c.loop-one.findings.items c.in_ok-value_note.field-0 c.loop-one.invariant.1 c.in_ok-value_note.ensures.finding),
)
