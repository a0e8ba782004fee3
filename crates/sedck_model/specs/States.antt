-- States and steps as the code has them, by those of the model on one file; and the first step that is none of the model's.
use Rattle.std.specs.Prelude.{◌≡◌, ℕ, List, [], ◌∷◌, take, map, Some, slice_get}
use Rattle.std.specs.Borrow.{Bor}
use Rattle.sedck_script.specs.Program.{Program}
use Rattle.sedck_flow.specs.Run as model
use Rattle.sedck_flow.specs.Run.{Step, Run, state_after}
use Rattle.sedck_model.specs.declared.states.Machine.{Machine}
use Rattle.sedck_model.specs.declared.states.State.{State}
use Rattle.sedck_model.specs.declared.states.State.TheVariants as state
use Rattle.sedck_model.specs.declared.states.Event.{Event}
use Rattle.sedck_model.specs.declared.states.Event.TheVariants as event
use Rattle.sedck_model.specs.declared.states.Move.{Move}

abbrev pub lines_of : List (Bor (List ℕ)) → List (List ℕ)
lines_of lines = map (λ line. line.now) lines

abbrev pub machine_of : Machine → model.Machine
machine_of m = record { at = m.at; flag = m.flag; unread = lines_of m.unread.now; later = []; pattern = m.pattern.now; hold = m.hold.now }

abbrev pub state_of : State → model.State
state_of (state.Start lines) = model.Start (lines_of lines.now ∷ [])
state_of (state.At m) = model.At (machine_of m)
state_of state.Done = model.Done

abbrev pub event_of : Event → model.Event
event_of event.Silent = model.Silent
event_of (event.Reads name) = model.Reads name.now
event_of (event.Writes name) = model.Writes name.now

abbrev pub move_of : Move → model.Event × model.State
move_of step = (event_of step.event, state_of step.after)

-- the steps before the one with this number are a run, and this one is no step from where they lead
pub record IsFirstWrong (p : Program) (lines : List (List ℕ)) (steps : List (model.Event × model.State)) (n : ℕ) : Type 0 where
  pub run : Run p lines (take n steps)
  pub wrong : model.Event × model.State
  pub is_wrong : slice_get steps n ≡ Some wrong
  pub no_step : Step p (state_after (model.Start (lines ∷ [])) (take n steps)) wrong.0 wrong.1 → ⊥
