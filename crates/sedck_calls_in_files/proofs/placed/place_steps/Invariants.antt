use Rattle.sedck_calls_in_files.proofs.Common.{◌≡◌, All, take, IsSomeIn}
use Rattle.sedck_calls_in_files.proofs.placed.place_steps.Given as goal

-- those so far
abbrev pub invariant-loop-step : goal.invariant-loop-step
invariant-loop-step l =
    (l.places.file ≡ l.initial.places.file) × All (λ step. IsSomeIn l.initial.places.file.now step.position) (take l.step-index l.step-items)
