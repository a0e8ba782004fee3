-- A step of a script without `H` leaves the hold space within a length that both spaces had.
use Rattle.sedck_cert.proofs.Common.{◌≡◌, ◌≢◌, ℕ, suc, ◌≤◌, Bool, true, false, List, [], ◌∷◌, ◌++◌, length, refl, ap, inl, inr, arith, MatchOption, slice_get, if◌then◌else◌, Address, Substitution, Verb, HoldAppend, Substitute, Command, Program, Machine, At, Event, StepIn, any_locale, all_lines, at_inj, at-done, BeginsWith, AppendsToHold, AreSpacesWithin, Block, Branch, Change, Delete, DeleteFirstLine, Exchange, Get, GetAppend, Hold, Next, NextAppend, Quit, Test, Transliterate, NextCycle, onward, skip, TakesLine, after_end, DropsFirstLine, ChangesText, SubstituteStep, Does, StepPast, StepAt, next_begins, cycle_begins}
use Rattle.std.specs.Prelude.{Option, Some, None}
use Rattle.sedck_commands.specs.Program.{Two}

module _ (p : Program) (d size : ℕ) (m : Machine) (fits : AreSpacesWithin size m) where
  abbrev Within : Machine → Type 0
  Within n = length n.hold ≤ size

  -- as the state that it is
  at_state : (n k : Machine) → At n ≡ At k → Within k → Within n
  at_state n k e le = let same : n ≡ k = at_inj e in omega (arith, ap (λ (x : Machine). length x.hold) same, le)

  kept : (n k : Machine) → At n ≡ At k → k.hold ≡ m.hold → Within n
  kept n k e same = at_state n k e (omega (arith, ap length same, fits.1))

  begins : (lines : List (List ℕ)) (n : Machine) → BeginsWith lines m.hold n → Within n
  begins lines n b = omega (arith, b.no_longer, fits.1)

  cycle : (n : Machine) → NextCycle m.unread m.later m.hold (At n) → Within n
  cycle n e = begins (m.unread ++ all_lines m.later) n (cycle_begins m.later m.unread m.hold n e)

  takes : (f : List ℕ → List ℕ) (unread : List (List ℕ)) (n : Machine) → TakesLine f m unread (At n) → Within n
  takes f [] n e = begins (all_lines m.later) n (next_begins m.later m.hold n e)
  takes f (first ∷ unread) n (flag, _, e) =
      kept n (record m { at = suc m.at; flag = flag; unread = unread; pattern = f first }) e refl

  drops : (rest : Option (List ℕ)) (n : Machine) → DropsFirstLine m rest (At n) → Within n
  drops None n h = cycle n h
  drops (Some rest) n (flag, _, e) = kept n (record m { at = 0; flag = flag; pattern = rest }) e refl

  changes : (a : Address) (n : Machine) → ChangesText a m (At n) → Within n
  changes (Two first end) n (inl h) = cycle n h
  changes (Two first end) n (inr h) = kept n (record m { at = suc m.at; pattern = [] }) h refl
  changes _ n h = cycle n h

  test : (target : ℕ) (n : Machine) (flag : Bool) → At n ≡ (if flag then At (record m { at = target; flag = false }) else onward m) → Within n
  test target n true e = kept n (record m { at = target; flag = false }) e refl
  test target n false e = kept n (record m { at = suc m.at }) e refl

  substitute : (s : Substitution) (n : Machine) (e : Event) → SubstituteStep any_locale p s m e (At n) → Within n
  substitute s n e (inl (_, h)) = kept n (record m { at = suc m.at }) h refl
  substitute s n e (inr (_, new, _, h)) = kept n (record m { at = suc m.at; flag = true; pattern = new }) h refl

  does : (a : Address) (v : Verb) → v ≢ HoldAppend → (n : Machine) (e : Event) → Does any_locale d p a v m e (At n) → Within n
  does a (Change text) never n e (_, h) = changes a n h
  does a Delete never n e (_, h) = cycle n h
  does a DeleteFirstLine never n e (_, h) = drops (after_end d m.pattern) n h
  does a GetAppend never n e (_, h) = kept n (record m { at = suc m.at; pattern = m.pattern ++ d ∷ m.hold }) h refl
  does a HoldAppend never n e h = absurd (never refl)
  does a Next never n e (_, h) = takes (λ text. text) m.unread n h
  does a NextAppend never n e (_, h) = takes (λ text. m.pattern ++ d ∷ text) m.unread n h
  does a (Substitute s) never n e h = substitute s n e h
  does a (Transliterate from to) never n e (_, new, _, h) = kept n (record m { at = suc m.at; pattern = new }) h refl
  does a (Branch target) never n e (_, h) = kept n (record m { at = target }) h refl
  does a Exchange never n e (_, h) = at_state n (record m { at = suc m.at; pattern = m.hold; hold = m.pattern }) h fits.0
  does a Get never n e (_, h) = kept n (record m { at = suc m.at; pattern = m.hold }) h refl
  does a Hold never n e (_, h) = at_state n (record m { at = suc m.at; hold = m.pattern }) h fits.0
  does a Quit never n e (_, h) = absurd (at-done h)
  does a (Test target) never n e (_, h) = test target n m.flag h
  does a _ never n e h = kept n (record m { at = suc m.at }) h.1 refl

  passes : (v : Verb) (n : Machine) → At n ≡ skip v m → Within n
  passes (Block past) n h = kept n (record m { at = past }) h refl
  passes _ n h = kept n (record m { at = suc m.at }) h refl

  command : (c : Command) → c.verb ≢ HoldAppend → (n : Machine) (e : Event) → StepAt any_locale d p c m e (At n) → Within n
  command c never n e (inl (_, h)) = does c.address c.verb never n e h
  command c never n e (inr (_, _, h)) = passes c.verb n h

  place : (o : Option Command) → ((c : Command) → o ≡ Some c → c.verb ≢ HoldAppend) → (n : Machine) (e : Event)
      → MatchOption o (StepPast p m e (At n)) (λ c. StepAt any_locale d p c m e (At n)) → Within n
  place None never n e (_, _, h) = cycle n h
  place (Some c) never n e h = command c (never c refl) n e h

  pub hold_within : ¬ AppendsToHold p → (n : Machine) (e : Event) → StepIn any_locale d p (At m) e (At n) → Within n
  hold_within never n e h = place (slice_get p.commands m.at) (λ c is appends. never (m.at, c, is, appends)) n e h
