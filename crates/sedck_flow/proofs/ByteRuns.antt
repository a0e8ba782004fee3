-- Each run of POSIX of a script that is byte safe is a run by characters, and a run by characters goes on.
use Rattle.sedck_flow.proofs.Common.{◌≡◌, ◌≢◌, ◌⊎◌, inl, inr, ℕ, false, List, [], ◌∷◌, ◌++◌, refl, ap, sym, ◌∙◌, subst, list_any, slice_get, slice_get-map, option_map, Some, cases_eq, newline, no_groups, Verb, Substitute, Transliterate, Program, IsByteSafe, is_high, replaces_byte, verb_patterns, or_parts, MayBecome, Transliterates, Files, State, Start, Done, Event, state_after, posix, AreTargetsWithin, AreWellFormed}
use Rattle.std.proofs.lemmas.List.Elements.{All-nil, All-cons}
use Rattle.sedck_flow.specs.CharacterRun.{characters_from, ArePartners, BecomesCharacter, CharacterTransliterates, utf_8, CharacterRun}
use Rattle.sedck_flow.specs.Run.{Run}
use Rattle.sedck_flow.proofs.ByteMatches.{narrows}
use Rattle.sedck_flow.proofs.CharacterRuns.{AreWhole, low_characters, byte_at, stands_whole, command_at, characters_widen}
use Rattle.sedck_flow.proofs.RunsGoOn.{partner_of, run_goes_on}
use Rattle.sedck_flow.proofs.Widening.{VerbWidens, Widens, steps_widen}

-- ---- `y`

-- a byte of a list is a character of it
is_listed : (text : List ℕ) → list_any is_high text ≡ false → (i : ℕ) (b : ℕ) → slice_get text i ≡ Some b → slice_get (characters_from [] text) i ≡ Some (b ∷ [])
is_listed text low i b is = ap (λ cs. slice_get cs i) (low_characters text low) ∙ slice_get-map (λ x. x ∷ []) text i ∙ ap (option_map (λ x. x ∷ [])) is

same_byte : (b c : ℕ) → b ∷ [] ≡ c ∷ [] → b ≡ c
same_byte b c is = cc

becomes_character : (from to : List ℕ) → list_any is_high from ≡ false → list_any is_high to ≡ false → (b c : ℕ) → MayBecome from to b c
    → BecomesCharacter from to (b ∷ [], c ∷ [])
becomes_character from to low also b c (inl (i, here, there)) =
    record { is_one = inr refl; becomes = inl (i, is_listed from low i b here, is_listed to also i c there) }
becomes_character from to low also b c (inr (none, same)) = record {
  is_one = inr refl;
  becomes = inr (
    λ d (i, here, there). (
        let (x, at, is) = byte_at from low i (b ∷ []) here in
        let (y, too, also_is) = byte_at to also i d there in
        none y (i, subst (λ z. slice_get from i ≡ Some z) (sym (same_byte b x is)) at, too)
        ),
    ap (λ x. x ∷ []) same,
  );
}

to_characters : (from to : List ℕ) → list_any is_high from ≡ false → list_any is_high to ≡ false → (old new : List ℕ) → Transliterates from to old new
    → CharacterTransliterates from to old new
to_characters from to low also [] [] h = ([], All-nil (BecomesCharacter from to), refl, refl)
to_characters from to low also (b ∷ bs) (c ∷ cs) h =
    let (pairs, all, is_old, is_new) = to_characters from to low also bs cs h.1 in (
      (b ∷ [], c ∷ []) ∷ pairs,
      All-cons (BecomesCharacter from to) (b ∷ [], c ∷ []) pairs (becomes_character from to low also b c h.0) all,
      ap (λ t. b ∷ t) is_old,
      ap (λ t. c ∷ t) is_new,
    )
to_characters from to low also [] (c ∷ cs) h = absurd h
to_characters from to low also (b ∷ bs) [] h = absurd h

texts_eq : (a b : List ℕ) → (a ≡ b) ⊎ (a ≡ b → ⊥)
texts_eq [] [] = inl refl
texts_eq [] (y ∷ b) = inr (λ e. cc)
texts_eq (x ∷ a) [] = inr (λ e. cc)
texts_eq (x ∷ a) (y ∷ b) = both (cases_eq x y) (texts_eq a b)
  where
    both : (x ≡ y) ⊎ (x ≡ y → ⊥) → (a ≡ b) ⊎ (a ≡ b → ⊥) → (x ∷ a ≡ y ∷ b) ⊎ (x ∷ a ≡ y ∷ b → ⊥)
    both (inl first) (inl rest) = inl (λ i. first i ∷ rest i)
    both (inl first) (inr other) = inr (λ e. other cc)
    both (inr other) rest = inr (λ e. other cc)

partner : (from to : List ℕ) (b : ℕ) → ((d : List ℕ) × ArePartners from to (b ∷ []) d) ⊎ ((d : List ℕ) → ¬ ArePartners from to (b ∷ []) d)
    → (d : List ℕ) × BecomesCharacter from to (b ∷ [], d)
partner from to b (inl (d, is)) = (d, record { is_one = inr refl; becomes = inl is })
partner from to b (inr none) = (b ∷ [], record { is_one = inr refl; becomes = inr (none, refl) })

-- `y` makes something of each text, byte by byte
some_text : (from to old : List ℕ) → (new : List ℕ) × CharacterTransliterates from to old new
some_text from to [] = ([], ([], All-nil (BecomesCharacter from to), refl, refl))
some_text from to (b ∷ bs) =
    let (d, becomes) = partner from to b (partner_of texts_eq (characters_from [] from) (characters_from [] to) (b ∷ [])) in
    let (new, (pairs, all, is_old, is_new)) = some_text from to bs in (
      d ++ new,
      (
        (b ∷ [], d) ∷ pairs,
        All-cons (BecomesCharacter from to) (b ∷ [], d) pairs becomes all,
        ap (λ t. b ∷ t) is_old,
        ap (λ t. d ++ t) is_new,
      ),
    )

-- ---- Runs

verb_narrows : (p : Program) → IsByteSafe p → (v : Verb) → AreWhole (verb_patterns v) → replaces_byte v ≡ false → VerbWidens p posix utf_8 v
verb_narrows p safe (Substitute s) none low = λ tree stands w e h. narrows tree (stands_whole p safe s.pattern tree none stands) no_groups w e h
verb_narrows p safe (Transliterate from to) none low =
    let both = or_parts (list_any is_high from) (list_any is_high to) low in
    λ old new h. to_characters from to both.0 both.1 old new h
verb_narrows p safe _ none low = tt

bytes_widen : (p : Program) → IsByteSafe p → Widens p posix utf_8
bytes_widen p safe = record {
  selects = λ pattern text h. tt;
  verbs = λ at c is. let here = command_at p safe at c is in verb_narrows p safe c.verb here.0 here.1;
}

pub run_by_characters : (p : Program) → IsByteSafe p → (lines : List (List ℕ)) (steps : List (Event × State)) → Run p lines steps
    → CharacterRun p newline (lines ∷ []) steps
run_by_characters p safe lines steps h = steps_widen p posix utf_8 (bytes_widen p safe) newline (Start (lines ∷ [])) steps h

pub character_run_goes_on : (p : Program) → AreWellFormed p → AreTargetsWithin p → IsByteSafe p → (d : ℕ) (files : Files) (steps : List (Event × State))
    → CharacterRun p d files steps → state_after (Start files) steps ≢ Done → (step : Event × State) × CharacterRun p d files (steps ++ step ∷ [])
character_run_goes_on p formed targets safe d files steps run running =
    run_goes_on utf_8 some_text d p formed targets (characters_widen p safe) files steps run running
