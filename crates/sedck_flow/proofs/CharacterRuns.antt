-- Where no command depends on characters, each run by characters is a wide run.
use Rattle.sedck_flow.proofs.Common.{◌≡◌, ◌⊎◌, inl, inr, ℕ, Bool, false, List, [], ◌∷◌, ◌++◌, map, refl, ap, sym, ◌∙◌, subst, arith, ◌||◌, flat_map, option_map, slice_get, if◌then◌else◌, list_any, none-some, slice_get-map, slice_get_within, get_or_from_slice_get, Tree, no_groups, Pattern, Previous, Expression, Verb, Substitute, Transliterate, Command, Program, pattern_expressions, address_patterns, verb_patterns, patterns, expressions, Contains-cons_cases, is_high, splits_character, StandsFor, Files, State, Start, Event, any_locale, WideTransliterates, or_parts, All, All-head, All-tail, same_Some, replaces_byte, command_expressions, depends_on_characters, IsByteSafe, WideRun}
use Rattle.std.proofs.Common.{Option, Some, None}
use Rattle.std.specs.Prelude.{Contains}
use Rattle.std.proofs.lemmas.List.Concat.{flat_map-append}
use Rattle.std.proofs.lemmas.List.Folds.{list_any-append}
use Rattle.sedck_flow.specs.CharacterRun.{characters_from, ArePartners, BecomesCharacter, CharacterTransliterates, utf_8, CharacterRun}
use Rattle.sedck_flow.proofs.ExpressionPatterns.{expressions_are_patterns}
use Rattle.sedck_flow.proofs.CharacterMatches.{low_byte, widens}
use Rattle.sedck_flow.proofs.Widening.{VerbWidens, Widens, steps_widen}

-- ---- The expressions of a script

one_of_two : {X : Type 0} (test : X → Bool) (y x : X) (Later : Type 0) → test y ≡ false → (y ≡ x) ⊎ Later → (Later → test x ≡ false) → test x ≡ false
one_of_two test y x Later first (inl is) more = subst (λ z. test z ≡ false) is first
one_of_two test y x Later first (inr later) more = more later

none_has : {X : Type 0} (test : X → Bool) (xs : List X) (x : X) → list_any test xs ≡ false → Contains xs x → test x ≡ false
none_has test [] x none (k, within, is) = absurd (omega (arith, within))
none_has test (y ∷ xs) x none has =
    let (first, others) = or_parts (test y) (list_any test xs) none in
    one_of_two test y x (Contains xs x) first (Contains-cons_cases y xs x has) (none_has test xs x others)

-- none of a command's patterns has an expression that splits a character
abbrev pub AreWhole : List Pattern → Type 0
AreWhole found = list_any splits_character (flat_map pattern_expressions found) ≡ false

whole_parts : (one other : List Pattern) → AreWhole (one ++ other) → AreWhole one × AreWhole other
whole_parts one other none = or_parts (list_any splits_character (flat_map pattern_expressions one)) (list_any splits_character (flat_map pattern_expressions other))
    (sym (list_any-append splits_character (flat_map pattern_expressions one) (flat_map pattern_expressions other))
    ∙ ap (list_any splits_character) (sym (flat_map-append pattern_expressions one other)) ∙ none)

whole_join : (one other : List Pattern) → AreWhole one → AreWhole other → AreWhole (one ++ other)
whole_join one other none also = ap (list_any splits_character) (flat_map-append pattern_expressions one other)
    ∙ list_any-append splits_character (flat_map pattern_expressions one) (flat_map pattern_expressions other)
    ∙ ap (λ b. b || list_any splits_character (flat_map pattern_expressions other)) none ∙ also

all_whole : (commands : List Command) → list_any depends_on_characters commands ≡ false → AreWhole (patterns commands)
all_whole [] none = refl
all_whole (c ∷ commands) none =
    let (first, others) = or_parts (depends_on_characters c) (list_any depends_on_characters commands) none in
    let (split, replaced) = or_parts (list_any splits_character (command_expressions c)) (replaces_byte c.verb) first in
    whole_join (address_patterns c.address ++ verb_patterns c.verb) (patterns commands) split (all_whole commands others)

-- the expression that a pattern stands for
pub stands_whole : (p : Program) → IsByteSafe p → (pattern : Pattern) (tree : Tree) → AreWhole (pattern ∷ []) → StandsFor p pattern tree
    → splits_character tree ≡ false
stands_whole p safe (Expression own) tree none is =
    subst (λ t. splits_character t ≡ false) (sym is) (or_parts (splits_character own) false none).0
stands_whole p safe Previous tree none has =
    none_has splits_character (expressions p.commands) tree (all_whole p.commands safe) ((expressions_are_patterns p.commands tree).1 has)

-- ---- `y`

one_byte : ℕ → List ℕ
one_byte b = b ∷ []

-- the characters of a text of bytes below 128 are its bytes
pub low_characters : (text : List ℕ) → list_any is_high text ≡ false → characters_from [] text ≡ map (λ b. b ∷ []) text
low_characters [] low = refl
low_characters (b ∷ text) low =
    let (first, others) = or_parts (is_high b) (list_any is_high text) low in
    ap (λ t. if t then (b ∷ []) ∷ characters_from [] text else characters_from (b ∷ []) text) (low_byte b first)
    ∙ ap (λ cs. (b ∷ []) ∷ cs) (low_characters text others)

some_byte : (o : Option ℕ) (c : List ℕ) → option_map (λ b. b ∷ []) o ≡ Some c → (b : ℕ) × (o ≡ Some b) × (c ≡ b ∷ [])
some_byte None c is = absurd (none-some c is)
some_byte (Some b) c is = (b, refl, sym (same_Some (b ∷ []) c is))

pub byte_at : (text : List ℕ) → list_any is_high text ≡ false → (i : ℕ) (c : List ℕ) → slice_get (characters_from [] text) i ≡ Some c
    → (b : ℕ) × (slice_get text i ≡ Some b) × (c ≡ b ∷ [])
byte_at text low i c is = some_byte (slice_get text i) c
    (sym (slice_get-map (λ b. b ∷ []) text i) ∙ ap (λ cs. slice_get cs i) (sym (low_characters text low)) ∙ is)

stays : (from to text : List ℕ) → WideTransliterates from to text text
stays from to [] = tt
stays from to (b ∷ text) = (inr refl, stays from to text)

one_after_another : (from to a b c d : List ℕ) → WideTransliterates from to a b → WideTransliterates from to c d → WideTransliterates from to (a ++ c) (b ++ d)
one_after_another from to [] [] c d one more = more
one_after_another from to (x ∷ a) (y ∷ b) c d one more = (one.0, one_after_another from to a b c d one.1 more)
one_after_another from to [] (y ∷ b) c d one more = absurd one
one_after_another from to (x ∷ a) [] c d one more = absurd one

becomes_wide : (from to : List ℕ) → list_any is_high from ≡ false → list_any is_high to ≡ false → (pair : List ℕ × List ℕ)
    → ArePartners from to pair.0 pair.1 ⊎ (((d : List ℕ) → ¬ ArePartners from to pair.0 d) × (pair.1 ≡ pair.0)) → WideTransliterates from to pair.0 pair.1
becomes_wide from to low also pair (inl (i, is, too)) =
    let (b, here, one) = byte_at from low i pair.0 is in
    let (c, there, other) = byte_at to also i pair.1 too in
    let partner : WideTransliterates from to (b ∷ []) (c ∷ []) = (inl (i, here, there), tt) in
    subst (λ x. WideTransliterates from to x pair.1) (sym one) (subst (λ y. WideTransliterates from to (b ∷ []) y) (sym other) partner)
becomes_wide from to low also pair (inr (without, same)) = subst (λ y. WideTransliterates from to pair.0 y) (sym same) (stays from to pair.0)

pairs_wide : (from to : List ℕ) → list_any is_high from ≡ false → list_any is_high to ≡ false → (pairs : List (List ℕ × List ℕ))
    → All (BecomesCharacter from to) pairs → WideTransliterates from to (flat_map (λ pair. pair.0) pairs) (flat_map (λ pair. pair.1) pairs)
pairs_wide from to low also [] all = tt
pairs_wide from to low also (pair ∷ pairs) all =
    one_after_another from to pair.0 pair.1 (flat_map (λ p. p.0) pairs) (flat_map (λ p. p.1) pairs)
    (becomes_wide from to low also pair (All-head (BecomesCharacter from to) pair pairs all).becomes)
    (pairs_wide from to low also pairs (All-tail (BecomesCharacter from to) pair pairs all))

transliterates_wide : (from to : List ℕ) → list_any is_high from ≡ false → list_any is_high to ≡ false → (old new : List ℕ)
    → CharacterTransliterates from to old new → WideTransliterates from to old new
transliterates_wide from to low also old new (pairs, all, is_old, is_new) =
    subst (λ x. WideTransliterates from to x new) (sym is_old)
    (subst (λ y. WideTransliterates from to (flat_map (λ p. p.0) pairs) y) (sym is_new) (pairs_wide from to low also pairs all))

-- ---- Runs

verb_widens : (p : Program) → IsByteSafe p → (v : Verb) → AreWhole (verb_patterns v) → replaces_byte v ≡ false → VerbWidens p utf_8 any_locale v
verb_widens p safe (Substitute s) none low = λ tree stands w e h. widens tree (stands_whole p safe s.pattern tree none stands) no_groups w e h
verb_widens p safe (Transliterate from to) none low =
    let both = or_parts (list_any is_high from) (list_any is_high to) low in
    λ old new h. transliterates_wide from to both.0 both.1 old new h
verb_widens p safe _ none low = tt

pub command_at : (p : Program) → IsByteSafe p → (at : ℕ) (c : Command) → slice_get p.commands at ≡ Some c → AreWhole (verb_patterns c.verb) × (replaces_byte c.verb ≡ false)
command_at p safe at c is =
    let has : Contains p.commands c = (at, slice_get_within p.commands at c is, get_or_from_slice_get p.commands at c c is) in
    let (split, low) = or_parts (list_any splits_character (command_expressions c)) (replaces_byte c.verb)
    (none_has depends_on_characters p.commands c safe has) in
    ((whole_parts (address_patterns c.address) (verb_patterns c.verb) split).1, low)

pub characters_widen : (p : Program) → IsByteSafe p → Widens p utf_8 any_locale
characters_widen p safe = record {
  selects = λ pattern text h. tt;
  verbs = λ at c is. let here = command_at p safe at c is in verb_widens p safe c.verb here.0 here.1;
}

pub character_run_wide : (p : Program) → IsByteSafe p → (d : ℕ) (files : Files) (steps : List (Event × State)) → CharacterRun p d files steps → WideRun p d files steps
character_run_wide p safe d files steps h = steps_widen p utf_8 any_locale (characters_widen p safe) d (Start files) steps h
