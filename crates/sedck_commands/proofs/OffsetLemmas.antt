-- What each part leaves is an end of its text.
use Rattle.sedck_commands.proofs.Common.{◌≡◌, ℕ, Bool, List, [], ◌∷◌, ◌++◌, length, take, drop, ◌-◌, ◌<◌, ◌≤◌, refl, ap, sym, ◌∙◌, subst, length-append, arith, append_assoc, Longest, Pattern, Part, Substitution, Ends, Number, Lines, GivenText, LabelText, DelimitedExpression, DelimitedList, Replacement, NameIn, FlagsIn, WrittenVerb, VerbText, VerbTextIn, EndsIn, Narrowings}
use Rattle.sedck_commands.specs.Parts as p
use Rattle.sedck_commands.specs.Items as w

-- what a run, a verb and the end of its line leave is an end of the text
pub tail_cut : {test : ℕ → Bool} {text front rest : List ℕ} → Longest test text front rest → EndsIn text rest
tail_cut {front = front} l = (front, l.cut)

pub tail_tail : {a b c : List ℕ} → EndsIn a b → EndsIn b c → EndsIn a c
tail_tail {a} {b} {c} h k = (h.0 ++ k.0, h.1 ∙ ap (λ t. h.0 ++ t) k.1 ∙ sym (append_assoc h.0 k.0 c))

pub tail_behind : {whole text behind : List ℕ} {b : ℕ} → EndsIn whole text → text ≡ b ∷ behind → EndsIn whole behind
tail_behind {whole} {text} {behind} {b} h e = (h.0 ++ (b ∷ []), h.1 ∙ ap (λ t. h.0 ++ t) e ∙ sym (append_assoc h.0 (b ∷ []) behind))

pub tail_cons : {text rest : List ℕ} (b : ℕ) → EndsIn text rest → EndsIn (b ∷ text) rest
tail_cons b h = (b ∷ h.0, ap (λ t. b ∷ t) h.1)

pub tail_length : {text rest : List ℕ} → EndsIn text rest → length rest ≤ length text
tail_length {text} {rest} h = omega (arith, ap length h.1, length-append h.0 rest)

pub ends_tail : {text rest : List ℕ} → Ends text rest → EndsIn text rest
ends_tail e = tail_cut e.run

pub number_tail : {text rest : List ℕ} {n : ℕ} → Number text n rest → EndsIn text rest
number_tail a = tail_cut a.run

pub name_tail : {asks : Narrowings} {text name rest : List ℕ} → NameIn asks text name rest → EndsIn text rest
name_tail n = tail_tail (tail_cut n.skipped) (tail_cut n.run)

pub label_text_tail : {text name rest : List ℕ} → LabelText text name rest → EndsIn text rest
label_text_tail l = tail_tail (tail_cut l.skipped) (tail_cut l.run)

-- lines are the text in front of the rest
pub lines_cut : {text bytes rest : List ℕ} → Lines text bytes rest → text ≡ bytes ++ rest
lines_cut p.all = refl
lines_cut (p.ends h) = refl
lines_cut (p.byte {b = b} f g x) = ap (λ t. b ∷ t) (lines_cut x)
lines_cut (p.pair {a = a} {b = b} f x) = ap (λ t. a ∷ b ∷ t) (lines_cut x)
lines_cut (p.last h) = refl

pub lines_tail : {text bytes rest : List ℕ} → Lines text bytes rest → EndsIn text rest
lines_tail {bytes = bytes} x = (bytes, lines_cut x)

pub given_tail : {text bytes rest : List ℕ} → GivenText text bytes rest → EndsIn text rest
given_tail (p.below {a = a} {b = b} h g x) = tail_cons a (tail_cons b (lines_tail x))
given_tail (p.behind {a = a} h l m n x) = tail_cons a (lines_tail x)
given_tail (p.at_once h g x) = lines_tail x

pub expression_tail : {d : ℕ} {text e rest : List ℕ} → DelimitedExpression d text e rest → EndsIn text rest
expression_tail (p.ends {b = b} h) = (b ∷ [], refl)
expression_tail (p.byte {b = b} f g h x) = tail_cons b (expression_tail x)
expression_tail (p.escaped {a = a} {b = b} f g h x) = tail_cons a (tail_cons b (expression_tail x))
expression_tail (p.pair {a = a} {b = b} f g h x) = tail_cons a (tail_cons b (expression_tail x))

pub list_cut : {d : ℕ} {text bytes rest : List ℕ} → DelimitedList d text bytes rest → (written : List ℕ) × (text ≡ written ++ d ∷ rest)
list_cut (p.ends {rest = rest} h) = ([], ap (λ k. k ∷ rest) h)
list_cut (p.byte {b = c} f g h x) = let more = list_cut x in (c ∷ more.0, ap (λ t. c ∷ t) more.1)
list_cut (p.escaped {a = a} {b = c} f g h x) = let more = list_cut x in (a ∷ c ∷ more.0, ap (λ t. a ∷ c ∷ t) more.1)
list_cut (p.backslashes {a = a} {b = c} f g x) = let more = list_cut x in (a ∷ c ∷ more.0, ap (λ t. a ∷ c ∷ t) more.1)
list_cut (p.line {a = a} {b = c} f g h x) = let more = list_cut x in (a ∷ c ∷ more.0, ap (λ t. a ∷ c ∷ t) more.1)

pub list_tail : {d : ℕ} {text e rest : List ℕ} → DelimitedList d text e rest → EndsIn text rest
list_tail x = tail_behind (list_cut x) refl

pub replacement_tail : {d : ℕ} {text rest : List ℕ} {parts : List Part} → Replacement d text parts rest → EndsIn text rest
replacement_tail (p.ends {b = b} h) = (b ∷ [], refl)
replacement_tail (p.whole {b = b} f g x) = tail_cons b (replacement_tail x)
replacement_tail (p.escaped {a = a} {b = b} f g h x) = tail_cons a (tail_cons b (replacement_tail x))
replacement_tail (p.part {a = a} {b = b} f g h x) = tail_cons a (tail_cons b (replacement_tail x))
replacement_tail (p.run l x) = tail_tail (tail_cut l) (replacement_tail x)

pub flags_tail : {asks : Narrowings} {q : Pattern} {ps : List Part} {text rest : List ℕ} {s : Substitution} → FlagsIn asks q ps text s rest → EndsIn text rest
flags_tail (p.none e m) = ends_tail e
flags_tail (p.file {b = b} h n) = tail_cons b (name_tail n)
flags_tail (p.global {b = b} h x g) = tail_cons b (flags_tail x)
flags_tail (p.print {b = b} h x g) = tail_cons b (flags_tail x)
flags_tail (p.number a x g) = tail_tail (number_tail a) (flags_tail x)

-- a verb takes its byte at least
pub verb_takes : {asks : Narrowings} {text rest : List ℕ} {v : WrittenVerb} → VerbTextIn asks text v rest
    → (b : ℕ) × (behind : List ℕ) × (text ≡ b ∷ behind) × EndsIn behind rest
verb_takes (w.simple x e) = (_, _, refl, ends_tail e)
verb_takes (w.label h l n e) = (_, _, refl, tail_tail (label_text_tail l) (ends_tail e))
verb_takes (w.jump h l n e brace) = (_, _, refl, tail_tail (label_text_tail l) (ends_tail e))
verb_takes (w.jump_to_end h n e brace) = (_, _, refl, ends_tail e)
verb_takes (w.opening h) = (_, _, refl, ([], refl))
verb_takes (w.append h l g) = (_, _, refl, tail_tail (tail_cut l) (given_tail g))
verb_takes (w.change h l g) = (_, _, refl, tail_tail (tail_cut l) (given_tail g))
verb_takes (w.insert h l g) = (_, _, refl, tail_tail (tail_cut l) (given_tail g))
verb_takes (w.read h n) = (_, _, refl, name_tail n)
verb_takes (w.write h n) = (_, _, refl, name_tail n)
verb_takes (w.substitute {delimiter = d} h t x y z g f) =
    (_, _, refl, tail_cons d (tail_tail (expression_tail x.cut) (tail_tail (replacement_tail z) (flags_tail f))))
verb_takes (w.transliterate {delimiter = d} h t x m y l e) = (_, _, refl, tail_cons d (tail_tail (list_tail x) (tail_tail (list_tail y) (ends_tail e))))

pub verb_text_tail : {text rest : List ℕ} {v : WrittenVerb} → VerbText text v rest → EndsIn text rest
verb_text_tail {rest = rest} x = let t = verb_takes x in subst (λ u. EndsIn u rest) (sym t.2) (tail_cons t.0 t.3)

pub verb_text_shorter : {text rest : List ℕ} {v : WrittenVerb} → VerbText text v rest → length rest < length text
verb_text_shorter x = let t = verb_takes x in omega (arith, ap length t.2, tail_length t.3)

pub take_front : (front rest : List ℕ) (n : ℕ) → n ≡ length front → (take n (front ++ rest) ≡ front) × (drop n (front ++ rest) ≡ rest)
take_front [] rest n e = rw e (refl, refl)
take_front (b ∷ front) rest n e = let t = take_front front rest (length front) refl in rw e (ap (λ u. b ∷ u) t.0, t.1)

-- a text split after its lines
pub lines_parts : {text bytes rest : List ℕ} (whole f r : List ℕ) (n : ℕ) → Lines text bytes rest → text ≡ whole → n ≡ length text - length rest
    → f ≡ take n text → r ≡ drop n whole → Lines whole f r
lines_parts {text} {bytes} {rest} whole f r n x same e g h =
    let cut = lines_cut x in
    let at : n ≡ length bytes = omega (arith, e, ap length cut, length-append bytes rest) in
    let parts = take_front bytes rest n at in
    let front : bytes ≡ f = sym parts.0 ∙ ap (take n) (sym cut) ∙ sym g in
    let behind : rest ≡ r = sym parts.1 ∙ ap (drop n) (sym cut ∙ same) ∙ sym h in
    rw (sym same, sym front, sym behind) x
