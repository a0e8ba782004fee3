-- What is left of a command, when one more piece is read, and the lists of a command by its grammar.
use Rattle.std.proofs.Common.{◌≡◌, ◌≢◌, ◌<◌, ◌⊎◌, inl, inr, length, ℕ, true, false, Bool, List, [], ◌∷◌, ◌++◌, refl, ap, sym, ◌∙◌, subst, append_assoc, arith}
use Rattle.std.specs.Prelude.{◌||◌, not, IsTrue}
use Rattle.std.specs.List.{list_all}
use Rattle.std.proofs.lemmas.Bool.{false≢true, and_parts}
use Rattle.sedck_text.specs.Text.{one_of}
use Rattle.sedck_text.specs.Classes.{is_digit, is_mark, is_blank}
use Rattle.sedck_commands.specs.Cuts.{Longest}
use Rattle.sedck_commands.specs.Parts.{DelimitedExpression, PlaceText, AddressText}
use Rattle.sedck_commands.specs.Parts as p
use Rattle.sedck_commands.specs.Cuts.{is_delimiter}
use Rattle.sedck_commands.specs.Program.{Place, Address, Verb}
use Rattle.sedck_commands.specs.Items.{WrittenVerb, Simple, VerbText, CommandText}
use Rattle.sedck_commands.specs.Items as w
use Rattle.sedck_plain.specs.WrittenLists.{expression_lists, place_lists, address_lists, verb_lists, command_lists}
use Rattle.sedck_plain.specs.Private.Cutting.{is_passed, is_other, HasLeft, AreAdded}
use Rattle.sedck_plain.specs.Private.Cutting as c

-- ---- One more piece

unpassed : {A : Type 0} (b : ℕ) → is_passed b ≡ true → is_passed b ≡ false → A
unpassed b h n = absurd (false≢true (sym n ∙ h))

other_unpassed : (b : ℕ) → is_passed b ≡ true → is_other b ≡ true → false ≡ true
other_unpassed b h o = subst (λ t. not (t || one_of "/\\s" b) ≡ true) h o

pub left_passed : (b : ℕ) (text all : List ℕ) → is_passed b ≡ true → HasLeft (b ∷ text) all → HasLeft text all
left_passed b text all h (c.passed i x) = x
left_passed b text all h (c.context e x y) = unpassed b h (ap is_passed e)
left_passed b text all h (c.custom e n x y) = unpassed b h (ap is_passed e)
left_passed b text all h (c.substitute e n x) = unpassed b h (ap is_passed e)
left_passed b text all h (c.other o) = absurd (false≢true (other_unpassed b h o))

added : (before own lists items : List ℕ) → items ≡ before ++ own → before ++ (own ++ lists) ≡ items ++ lists
added before own lists items e = sym (append_assoc before own lists) ∙ ap (λ t. t ++ lists) (sym e)

pub left_context : (b : ℕ) (text before items rest all : List ℕ) → b ≡ 47 → AreAdded 47 text before items rest → HasLeft (b ∷ text) all
    → (more : List ℕ) × (before ++ all ≡ items ++ more) × HasLeft rest more
left_context b text before items rest all h k (c.passed i x) = unpassed b i (ap is_passed h)
left_context b text before items rest all h k (c.context {expression = expression} {rest = left} {lists = lists} e x y) =
    let one = k expression left (λ (s : 47 ≡ 92). absurd (omega (arith, s))) x in
    (lists, added before (expression_lists expression) lists items one.0, subst (λ t. HasLeft t lists) one.1 y)
left_context b text before items rest all h k (c.custom e n x y) = absurd (omega (arith, e, h))
left_context b text before items rest all h k (c.substitute e n x) = absurd (omega (arith, e, h))
left_context b text before items rest all h k (c.other o) = absurd (false≢true (sym (ap is_other h) ∙ o))

pub left_custom : (b d : ℕ) (text before items rest all : List ℕ) → b ≡ 92 → AreAdded d text before items rest → HasLeft (b ∷ d ∷ text) all
    → (more : List ℕ) × (before ++ all ≡ items ++ more) × HasLeft rest more
left_custom b d text before items rest all h k (c.passed i x) = unpassed b i (ap is_passed h)
left_custom b d text before items rest all h k (c.context e x y) = absurd (omega (arith, e, h))
left_custom b d text before items rest all h k (c.custom {expression = expression} {rest = left} {lists = lists} e s x y) =
    let one = k expression left s x in (lists, added before (expression_lists expression) lists items one.0, subst (λ t. HasLeft t lists) one.1 y)
left_custom b d text before items rest all h k (c.substitute e s x) = absurd (omega (arith, e, h))
left_custom b d text before items rest all h k (c.other i) = absurd (false≢true (sym (ap is_other h) ∙ i))

pub left_substitute : (b d : ℕ) (text before items rest all : List ℕ) → b ≡ 115 → AreAdded d text before items rest → HasLeft (b ∷ d ∷ text) all
    → before ++ all ≡ items
left_substitute b d text before items rest all h k (c.passed i x) = unpassed b i (ap is_passed h)
left_substitute b d text before items rest all h k (c.context e x y) = absurd (omega (arith, e, h))
left_substitute b d text before items rest all h k (c.custom e s x y) = absurd (omega (arith, e, h))
left_substitute b d text before items rest all h k (c.substitute {expression = expression} {rest = left} e s x) = sym (k expression left s x).0
left_substitute b d text before items rest all h k (c.other i) = absurd (false≢true (sym (ap is_other h) ∙ i))

-- no list is left
pub left_none : (text all : List ℕ) → length text < 1 → HasLeft text all → all ≡ []
left_none _ _ short (c.passed i x) = absurd (omega (arith, short))
left_none _ _ short (c.context e x y) = absurd (omega (arith, short))
left_none _ _ short (c.custom e n x y) = absurd (omega (arith, short))
left_none _ _ short (c.substitute e n x) = absurd (omega (arith, short))
left_none _ _ short (c.other o) = refl

over : (b : ℕ) (text all : List ℕ) → is_passed b ≡ false → b ≢ 47 → ((b ≡ 92) ⊎ (b ≡ 115) → length (b ∷ text) < 2) → HasLeft (b ∷ text) all → all ≡ []
over b _ _ h n short (c.passed i x) = unpassed b i h
over b _ _ h n short (c.context e x y) = absurd (n e)
over b _ _ h n short (c.custom e m x y) = absurd (omega (arith, short (inl e)))
over b _ _ h n short (c.substitute e m x) = absurd (omega (arith, short (inr e)))
over b _ _ h n short (c.other o) = refl

pub left_over : (b : ℕ) (text behind all : List ℕ) → text ≡ b ∷ behind → is_passed b ≡ false → b ≢ 47 → ((b ≡ 92) ⊎ (b ≡ 115) → length text < 2)
    → HasLeft text all → all ≡ []
left_over b text behind all cut h n short x =
    over b behind all h n (λ begins. subst (λ t. length t < 2) cut (short begins)) (subst (λ t. HasLeft t all) cut x)

-- ---- The grammar

no_backslash : (d : ℕ) → IsTrue (is_delimiter d) → d ≢ 92
no_backslash d h e = false≢true (sym (ap is_delimiter e) ∙ h)

pass : (front text lists : List ℕ) → list_all is_passed front ≡ true → HasLeft text lists → HasLeft (front ++ text) lists
pass [] text lists all x = x
pass (b ∷ front) text lists all x = let h = and_parts (is_passed b) (list_all is_passed front) all in c.passed h.0 (pass front text lists h.1 x)

weaker : (test : ℕ → Bool) → ((b : ℕ) → test b ≡ true → is_passed b ≡ true) → (front : List ℕ) → list_all test front ≡ true → list_all is_passed front ≡ true
weaker test h [] all = refl
weaker test h (b ∷ front) all =
    let one = and_parts (test b) (list_all test front) all in rw (h b one.0) (weaker test h front one.1)

pass_run : (test : ℕ → Bool) (text front rest lists : List ℕ) → ((b : ℕ) → test b ≡ true → is_passed b ≡ true) → Longest test text front rest
    → HasLeft rest lists → HasLeft text lists
pass_run test text front rest lists h run x = subst (λ t. HasLeft t lists) (sym run.cut) (pass front rest lists (weaker test h front run.passes) x)

digit_passed : (b : ℕ) → is_digit b ≡ true → is_passed b ≡ true
digit_passed b h = rw h refl

mark_passed : (b : ℕ) → is_mark b ≡ true → is_passed b ≡ true
mark_passed b h = go (is_digit b)
  where
    go : (t : Bool) → (t || is_mark b || one_of "$," b) ≡ true
    go true = refl
    go false = rw h refl

blank_passed : (b : ℕ) → is_blank b ≡ true → is_passed b ≡ true
blank_passed b h = mark_passed b (rw h refl)

left_place : {text rest : List ℕ} {place : Place} (lists : List ℕ) (here : PlaceText text place rest) → HasLeft rest lists → HasLeft text (place_lists here ++ lists)
left_place lists (p.line number) x = pass_run is_digit _ _ _ lists digit_passed number.run x
left_place lists (p.last e) x = c.passed (ap is_passed e) x
left_place lists (p.context e cut pattern) x = c.context e cut.cut x
left_place lists (p.custom e d cut pattern) x = c.custom e (no_backslash _ d) cut.cut x

left_addresses : {text rest : List ℕ} {address : Address} (lists : List ℕ) (here : AddressText text address rest) → HasLeft rest lists
    → HasLeft text (address_lists here ++ lists)
left_addresses lists p.none x = x
left_addresses lists (p.one first) x = left_place lists first x
left_addresses {text} lists (p.two first before e behind second) x =
    let rest = c.passed (ap is_passed e) (pass_run is_blank _ _ _ _ blank_passed behind (left_place lists second x)) in
    subst (λ t. HasLeft text t) (sym (append_assoc (place_lists first) (place_lists second) lists))
    (left_place (place_lists second ++ lists) first (pass_run is_blank _ _ _ _ blank_passed before rest))

simple_other : {b : ℕ} {verb : Verb} → Simple b verb → is_other b ≡ true
simple_other w.delete = refl
simple_other _ = refl

left_verb : {text rest : List ℕ} {verb : WrittenVerb} (here : VerbText text verb rest) → HasLeft text (verb_lists here)
left_verb (w.substitute e d cut pattern parts groups flags) = c.substitute e (no_backslash _ d) cut.cut
left_verb (w.simple x ends) = c.other (simple_other x)
left_verb (w.jump {tests = true} e label no_comment ends braced) = c.other (ap is_other e)
left_verb (w.jump {tests = false} e label no_comment ends braced) = c.other (ap is_other e)
left_verb (w.jump_to_end {tests = true} e no_comment ends braced) = c.other (ap is_other e)
left_verb (w.jump_to_end {tests = false} e no_comment ends braced) = c.other (ap is_other e)
left_verb (w.label e label no_brace ends) = c.other (ap is_other e)
left_verb (w.opening e) = c.other (ap is_other e)
left_verb (w.append e blanks text) = c.other (ap is_other e)
left_verb (w.change e blanks text) = c.other (ap is_other e)
left_verb (w.insert e blanks text) = c.other (ap is_other e)
left_verb (w.read e name) = c.other (ap is_other e)
left_verb (w.write e name) = c.other (ap is_other e)
left_verb (w.transliterate e d from alike to same ends) = c.other (ap is_other e)

pub left_command : {text rest : List ℕ} {address : Address} {negated : Bool} {verb : WrittenVerb} (here : CommandText text address negated verb rest)
    → HasLeft text (command_lists here)
left_command here = left_addresses _ here.addresses (pass_run is_mark _ _ _ _ mark_passed here.run (left_verb here.verbs))
