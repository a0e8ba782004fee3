-- A step in one locale is a step in another one that allows all that the first one does with the script. So a run of POSIX is a wide run.
use Rattle.sedck_flow.proofs.Common.{◌≡◌, ◌⊎◌, ℕ, Bool, true, false, List, [], ◌∷◌, ◌++◌, refl, inl, inr, Option, Some, None, MatchOption, MatchBool, slice_get, newline, Tree, Groups, no_groups, Pattern, Context, Address, One, Substitution, Verb, Substitute, Transliterate, Command, Program, StandsFor, Occurrence, AreMatchesIn, SubstitutesIn, Locale, Machine, State, Start, At, Done, Event, IsPartner, MayBecome, Transliterates, Does, MaySelect, MayNotSelect, StepPast, StepAt, StepIn, StepsIn, state_after, posix, WideTransliterates, any_locale}
use Rattle.sedck_bre.proofs.MatchIsWide.{widens}

-- what the verb may do in the first locale it may do in the second one
abbrev pub VerbWidens : Program → Locale → Locale → Verb → Type 0
VerbWidens p l k (Substitute s) = (tree : Tree) → StandsFor p s.pattern tree → (w : List ℕ) (e : Groups) → l.Matches tree no_groups w e
    → k.Matches tree no_groups w e
VerbWidens p l k (Transliterate from to) = (old new : List ℕ) → l.Transliterates from to old new → k.Transliterates from to old new
VerbWidens p l k _ = Unit {0}

-- the same of all that the script does
pub record Widens (p : Program) (l k : Locale) : Type 0 where
  pub selects : (pattern : Pattern) (text : List ℕ) → l.Selects p pattern text → k.Selects p pattern text
  pub verbs : (at : ℕ) (c : Command) → slice_get p.commands at ≡ Some c → VerbWidens p l k c.verb

module _ (p : Program) (l k : Locale) (wider : Widens p l k) (d : ℕ) where
  matches_widen : (tree : Tree) → ((w : List ℕ) (e : Groups) → l.Matches tree no_groups w e → k.Matches tree no_groups w e) → (ms : List Occurrence)
      → AreMatchesIn l.Matches tree ms → AreMatchesIn k.Matches tree ms
  matches_widen tree each [] h = tt
  matches_widen tree each (m ∷ more) h = (each m.whole m.groups h.0, matches_widen tree each more h.1)

  substitutes_widen : (s : Substitution) → VerbWidens p l k (Substitute s) → (old new : List ℕ) → SubstitutesIn l.Matches p s old new
      → SubstitutesIn k.Matches p s old new
  substitutes_widen s each old new h = record {
    tree = h.tree;
    is_expression = h.is_expression;
    front = h.front;
    matches = h.matches;
    some_match = h.some_match;
    one_match = h.one_match;
    are_matches = matches_widen h.tree (each h.tree h.is_expression) h.matches h.are_matches;
    are_apart = h.are_apart;
    is_old = h.is_old;
    is_new = h.is_new;
  }

  does_widen : (a : Address) (v : Verb) → VerbWidens p l k v → (m : Machine) (e : Event) (s : State) → Does l d p a v m e s → Does k d p a v m e s
  does_widen a (Substitute sub) each m e s (inl quiet) = inl quiet
  does_widen a (Substitute sub) each m e s (inr (event, new, made, h)) = inr (event, new, substitutes_widen sub each m.pattern new made, h)
  does_widen a (Transliterate from to) each m e s (quiet, new, by, h) = (quiet, new, each m.pattern new by, h)
  does_widen a _ each m e s h = h

  selects_widen : (a : Address) (m : Machine) → MaySelect l p a m → MaySelect k p a m
  selects_widen (One (Context pattern)) m h = wider.selects pattern m.pattern h
  selects_widen _ m h = h

  applies : (negated : Bool) (a : Address) (m : Machine) → MatchBool negated (MayNotSelect a m) (MaySelect l p a m)
      → MatchBool negated (MayNotSelect a m) (MaySelect k p a m)
  applies true a m h = h
  applies false a m h = selects_widen a m h

  passes : (negated : Bool) (a : Address) (m : Machine) → MatchBool negated (MaySelect l p a m) (MayNotSelect a m)
      → MatchBool negated (MaySelect k p a m) (MayNotSelect a m)
  passes true a m h = selects_widen a m h
  passes false a m h = h

  at_place : (o : Option Command) (m : Machine) → slice_get p.commands m.at ≡ o → (e : Event) (s : State)
      → MatchOption o (StepPast p m e s) (λ c. StepAt l d p c m e s) → MatchOption o (StepPast p m e s) (λ c. StepAt k d p c m e s)
  at_place None m here e s h = h
  at_place (Some c) m here e s (inl (may, h)) =
      inl (applies c.negated c.address m may, does_widen c.address c.verb (wider.verbs m.at c here) m e s h)
  at_place (Some c) m here e s (inr (may, quiet, h)) = inr ((may.0, passes c.negated c.address m may.1), quiet, h)

  pub step_widens : (s : State) (e : Event) (t : State) → StepIn l d p s e t → StepIn k d p s e t
  step_widens (Start files) e t h = h
  step_widens (At m) e t h = at_place (slice_get p.commands m.at) m refl e t h
  step_widens Done e t h = absurd h

  pub steps_widen : (s : State) (steps : List (Event × State)) → StepsIn l d p s steps → StepsIn k d p s steps
  steps_widen s [] h = tt
  steps_widen s (next ∷ more) h = (step_widens s next.0 next.1 h.0, steps_widen next.1 more h.1)

-- ---- The POSIX locale

becomes : (from to : List ℕ) (b c : ℕ) → MayBecome from to b c → IsPartner from to b c ⊎ (c ≡ b)
becomes from to b c (inl partner) = inl partner
becomes from to b c (inr (_, same)) = inr same

transliterates : (from to old new : List ℕ) → Transliterates from to old new → WideTransliterates from to old new
transliterates from to [] [] h = h
transliterates from to (b ∷ bs) (c ∷ cs) h = (becomes from to b c h.0, transliterates from to bs cs h.1)
transliterates from to _ _ h = absurd h

verb_widens : (p : Program) (v : Verb) → VerbWidens p posix any_locale v
verb_widens p (Substitute s) = λ tree stands w e h. widens tree no_groups w e h
verb_widens p (Transliterate from to) = λ old new h. transliterates from to old new h
verb_widens p _ = tt

pub posix_widens : (p : Program) → Widens p posix any_locale
posix_widens p = record { selects = λ pattern text h. tt; verbs = λ at c here. verb_widens p c.verb }

pub step_is_wide : (p : Program) (s : State) (e : Event) (t : State) → StepIn posix newline p s e t → StepIn any_locale newline p s e t
step_is_wide p s e t h = step_widens p posix any_locale (posix_widens p) newline s e t h

pub steps_are_wide : (p : Program) (s : State) (steps : List (Event × State)) → StepsIn posix newline p s steps → StepsIn any_locale newline p s steps
steps_are_wide p s steps h = steps_widen p posix any_locale (posix_widens p) newline s steps h

pub run_is_wide : (p : Program) (lines : List (List ℕ)) (steps : List (Event × State)) → StepsIn posix newline p (Start (lines ∷ [])) steps
    → StepsIn any_locale newline p (Start (lines ∷ [])) steps
run_is_wide p lines steps h = steps_are_wide p (Start (lines ∷ [])) steps h

-- ---- Any locale

any_verb : (p : Program) (v : Verb) → VerbWidens p any_locale any_locale v
any_verb p (Substitute s) = λ tree stands w e h. h
any_verb p (Transliterate from to) = λ old new h. h
any_verb p _ = tt

pub any_widens : (p : Program) → Widens p any_locale any_locale
any_widens p = record { selects = λ pattern text h. tt; verbs = λ at c here. any_verb p c.verb }

-- one step more
pub extended : (l : Locale) (d : ℕ) (p : Program) (s : State) (steps : List (Event × State)) (next : Event × State) → StepsIn l d p s steps
    → StepIn l d p (state_after s steps) next.0 next.1 → StepsIn l d p s (steps ++ next ∷ [])
extended l d p s [] next h step = (step, tt)
extended l d p s (first ∷ more) next h step = (h.0, extended l d p first.1 more next h.1 step)
