-- Steps, one after another.
use Rattle.sedck_model.proofs.Common.{◌≡◌, ℕ, ◌+◌, ◌<◌, List, [], ◌∷◌, ◌++◌, map, length, get_or, take, refl, sym, ap, ◌∙◌, subst, arith, length-map, get_or-map, take_more, slice_get_read, Program, newline, Run, state_after, state_of, move_of}
use Rattle.sedck_flow.specs.Run.{Event, State, Start, Step, Steps, posix}
use Rattle.sedck_flow.proofs.Widening.{extended}
use Rattle.sedck_model.specs.States.{event_of, IsFirstWrong}
use Rattle.sedck_model.specs.declared.states.Move.{Move}

state_after-push : (s : State) (steps : List (Event × State)) (next : Event × State) → state_after s (steps ++ next ∷ []) ≡ next.1
state_after-push s [] next = refl
state_after-push s (step ∷ more) next = state_after-push step.1 more next

one_more : (steps : List Move) (i : ℕ) (d : Move) → i < length steps
    → take (i + 1) (map move_of steps) ≡ take i (map move_of steps) ++ move_of (get_or steps i d) ∷ []
one_more steps i d below =
    let long : length (map move_of steps) ≡ length steps = length-map steps move_of in
    take_more (map move_of steps) i (move_of d) (omega (arith, below, long))
    ∙ ap (λ (m : Event × State). take i (map move_of steps) ++ m ∷ []) (get_or-map move_of steps i d (move_of d) below)

-- one step more
pub steps_more : (p : Program) (from : State) (steps : List Move) (i : ℕ) (d : Move) (s : State) → i < length steps
    → Steps p from (take i (map move_of steps)) → s ≡ state_after from (take i (map move_of steps))
    → Step p s (event_of (get_or steps i d).event) (state_of (get_or steps i d).after) → Steps p from (take (i + 1) (map move_of steps))
steps_more p from steps i d s below so_far here step =
    rw (one_more steps i d below)
    (extended posix newline p from (take i (map move_of steps)) (move_of (get_or steps i d)) so_far
    (subst (λ (t : State). Step p t (event_of (get_or steps i d).event) (state_of (get_or steps i d).after)) here step))

pub here_after : (from : State) (steps : List Move) (i : ℕ) (d : Move) → i < length steps
    → state_of (get_or steps i d).after ≡ state_after from (take (i + 1) (map move_of steps))
here_after from steps i d below =
    rw (one_more steps i d below) (sym (state_after-push from (take i (map move_of steps)) (move_of (get_or steps i d))))

-- the first step that is none
pub first_wrong : (p : Program) (lines : List (List ℕ)) (steps : List Move) (i : ℕ) (d : Move) (s : State) → i < length steps
    → Run p lines (take i (map move_of steps)) → s ≡ state_after (Start (lines ∷ [])) (take i (map move_of steps))
    → (Step p s (event_of (get_or steps i d).event) (state_of (get_or steps i d).after) → ⊥) → IsFirstWrong p lines (map move_of steps) i
first_wrong p lines steps i d s below run here never =
    let long : length (map move_of steps) ≡ length steps = length-map steps move_of in
    record {
      run = run;
      wrong = move_of (get_or steps i d);
      is_wrong = slice_get_read (map move_of steps) (length (map move_of steps)) i (move_of (get_or steps i d)) refl (omega (arith, below, long))
          (sym (get_or-map move_of steps i d (move_of (get_or steps i d)) below));
      no_step = λ step. never (subst (λ (t : State). Step p t (event_of (get_or steps i d).event) (state_of (get_or steps i d).after)) (sym here) step);
    }
