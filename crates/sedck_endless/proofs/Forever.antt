-- A run that comes back to a state goes on for ever.
use Rattle.std.proofs.Common.{◌≡◌, ℕ, zero, suc, ◌<◌, ◌≤◌, List, [], ◌∷◌, ◌++◌, length, sym, subst, arith, length-append}
use Rattle.sedck_commands.specs.Program.{Program}
use Rattle.sedck_flow.specs.Run.{State, Start, Event, Steps, state_after}
use Rattle.sedck_endless.specs.Endless.{ComesBack, NeverEnds}

joined : (p : Program) (s : State) (front back : List (Event × State)) → Steps p s front → Steps p (state_after s front) back → Steps p s (front ++ back)
joined p s [] back one other = other
joined p s (next ∷ front) back one other = (one.0, joined p next.1 front back one.1 other)

-- so many rounds, one after another
abbrev again : ℕ → List (Event × State) → List (Event × State)
again zero round = []
again (suc n) round = round ++ again n round

goes_again : (p : Program) (s : State) (round : List (Event × State)) → Steps p s round → state_after s round ≡ s → (n : ℕ) → Steps p s (again n round)
goes_again p s round goes back zero = tt
goes_again p s round goes back (suc n) =
    joined p s round (again n round) goes (subst (λ (t : State). Steps p t (again n round)) (sym back) (goes_again p s round goes back n))

long : (round : List (Event × State)) → 0 < length round → (n : ℕ) → n ≤ length (again n round)
long round some zero = omega arith
long round some (suc n) = omega (arith, length-append round (again n round), long round some n, some)

pub never_ends : (p : Program) (lines : List (List ℕ)) → ComesBack p lines → NeverEnds p lines
never_ends p lines h n =
    let s = state_after (Start (lines ∷ [])) h.steps in (
      h.steps ++ again n h.round,
      joined p (Start (lines ∷ [])) h.steps (again n h.round) h.is_run (goes_again p s h.round h.goes_round h.comes_back n),
      omega (arith, length-append h.steps (again n h.round), long h.round h.some_step n),
    )
