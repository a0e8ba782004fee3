use Rattle.sedck_calls_in_files.proofs.Common.{◌∙◌, All, All-push, ap, subst, sym, IsWarningIn}
use Rattle.sedck_calls_in_files.proofs.holes.open_warnings.Goals as goal

pub loop-hole-preserved : goal.loop-hole-preserved
loop-hole-preserved c = (
  ap (λ file. file.now) c.open_warning.ensures.file ∙ c.loop-hole.invariant.0,
  subst (All (IsWarningIn c.args.file.now)) (sym c.in_ok-push.ensures.items)
      (All-push (IsWarningIn c.args.file.now) c.loop-hole.findings.items c.in_ok-open_warning.field-0 c.loop-hole.invariant.1 c.in_ok-open_warning.ensures.finding),
)
