-- Runs that never end.
use Rattle.std.specs.Prelude.{◌≡◌, ◌<◌, ◌≤◌, ℕ, List, [], ◌∷◌, length}
use Rattle.sedck_script.specs.Program.{Program}
use Rattle.sedck_flow.specs.Run.{State, Start, Event, Steps, Run, state_after}

-- some run on these lines comes to a state, and further steps lead from there to the same state
pub record ComesBack (p : Program) (lines : List (List ℕ)) : Type 0 where
  pub steps : List (Event × State)
  pub is_run : Run p lines steps
  pub round : List (Event × State)
  pub some_step : 0 < length round
  pub goes_round : Steps p (state_after (Start (lines ∷ [])) steps) round
  pub comes_back : state_after (state_after (Start (lines ∷ [])) steps) round ≡ state_after (Start (lines ∷ [])) steps

-- no number bounds the steps of the runs on these lines
abbrev pub NeverEnds : Program → List (List ℕ) → Type 0
NeverEnds p lines = (n : ℕ) → (steps : List (Event × State)) × Run p lines steps × (n ≤ length steps)

-- where a run comes back to a state, there is no such number
abbrev pub RoundsNeverEnd : Type 0
RoundsNeverEnd = (p : Program) (lines : List (List ℕ)) → ComesBack p lines → NeverEnds p lines
