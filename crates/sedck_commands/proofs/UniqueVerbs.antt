-- A text has one verb at most, whole with what it takes.
use Rattle.sedck_commands.proofs.Common.{◌≡◌, ◌≢◌, ℕ, ◌<◌, Bool, true, false, eqb, cond, List, [], ◌∷◌, ◌++◌, length, Option, Some, refl, ap, sym, ◌∙◌, subst, arith, IsTrue, list_all, both_ways, and_parts, eq-eqb, one_of, is_delimiter, is_ending, is_label_byte, IsEmptyOr, Pattern, Part, Substitution, Verb, Label, Substitute, Transliterate, Ends, LabelText, Replacement, DelimitedList, ExpressionTextIn, IsPatternIn, FlagsIn, WrittenVerb, Known, JumpTo, Simple, VerbText, VerbTextIn, longest_one, Narrowings, begins_with, Change, Insert}
use Rattle.sedck_commands.specs.Program.{Read, Write, Append}
use Rattle.sedck_commands.specs.Items as w
use Rattle.sedck_commands.proofs.UniqueParts.{label_one, ends_one, name_one, expression_one, pattern_one, list_one, replacement_one, flags_one, given_one}

pub simple_one : {b : ℕ} {v u : Verb} → Simple b v → Simple b u → v ≡ u
simple_one w.line_number w.line_number = refl
simple_one w.delete w.delete = refl
simple_one w.delete_first_line w.delete_first_line = refl
simple_one w.get w.get = refl
simple_one w.get_append w.get_append = refl
simple_one w.hold w.hold = refl
simple_one w.hold_append w.hold_append = refl
simple_one w.list w.list = refl
simple_one w.next w.next = refl
simple_one w.next_append w.next_append = refl
simple_one w.print w.print = refl
simple_one w.print_first_line w.print_first_line = refl
simple_one w.quit w.quit = refl
simple_one w.exchange w.exchange = refl

-- a verb's byte, or 0 for those that take nothing, and that of `b` for `t`
abbrev pub class : ℕ → ℕ
class b = cond (one_of "=dDgGhHlnNpPqx" b) 0 (cond (eqb b 116) 98 b)

abbrev pub head_class : List ℕ → ℕ
head_class [] = 0
head_class (b ∷ text) = class b

abbrev pub class_of : {asks : Narrowings} {text rest : List ℕ} {v : WrittenVerb} → VerbTextIn asks text v rest → ℕ
class_of (w.simple x e) = 0
class_of (w.label h l n e) = 58
class_of (w.jump h l n e brace) = 98
class_of (w.jump_to_end h n e brace) = 98
class_of (w.opening h) = 123
class_of (w.append h l g) = 97
class_of (w.change h l g) = 99
class_of (w.insert h l g) = 105
class_of (w.read h n) = 114
class_of (w.write h n) = 119
class_of (w.substitute h d x y z g f) = 115
class_of (w.transliterate h d x m y l e) = 121

pub simple_class : {b : ℕ} {v : Verb} → Simple b v → class b ≡ 0
simple_class w.line_number = refl
simple_class _ = refl

pub jump_class : (tests : Bool) → class (cond tests 116 98) ≡ 98
jump_class true = refl
jump_class false = refl

pub begins : {asks : Narrowings} {text rest : List ℕ} {v : WrittenVerb} (x : VerbTextIn asks text v rest) → head_class text ≡ class_of x
begins (w.simple x e) = simple_class x
begins (w.label h l n e) = ap class h
begins (w.jump {tests = t} h l n e brace) = ap class h ∙ jump_class t
begins (w.jump_to_end {tests = t} h n e brace) = ap class h ∙ jump_class t
begins (w.opening h) = ap class h
begins (w.append h l g) = ap class h
begins (w.change h l g) = ap class h
begins (w.insert h l g) = ap class h
begins (w.read h n) = ap class h
begins (w.write h n) = ap class h
begins (w.substitute h d x y z g f) = ap class h
begins (w.transliterate h d x m y l e) = ap class h

-- no verb begins the text
abbrev pub NoVerb : List ℕ → Type 0
NoVerb text = (verb : WrittenVerb) (rest : List ℕ) → VerbText text verb rest → ⊥

pub differ : (m n : ℕ) → eqb m n ≡ false → m ≡ n → ⊥
differ m n h e = both_ways _ h (eq-eqb m n e)

pub no_backslash : {d : ℕ} → IsTrue (is_delimiter d) → d ≢ 92
no_backslash h e = grind (arith, h, e)

ending_no_label : (b : ℕ) → is_ending b ≡ true → is_label_byte b ≡ true → ⊥
ending_no_label b h l = grind (arith, h, l)

starts_label : (name behind rest : List ℕ) → rest ≡ name ++ behind → 0 < length name → list_all is_label_byte name ≡ true → IsEmptyOr is_ending rest → ⊥
starts_label [] behind rest e some all h = absurd (omega arith)
starts_label (b ∷ name) behind [] e some all h = absurd (cc e)
starts_label (b ∷ name) behind (c ∷ rest) e some all h =
    let same : c ≡ b = cc e in
    ending_no_label b (rw same at h) (and_parts (is_label_byte b) (list_all is_label_byte name) all).0

pub label_or_end : {text name behind rest : List ℕ} → LabelText text name behind → Ends text rest → ⊥
label_or_end {text} {name} {behind} {rest} l e = starts_label name behind rest ((longest_one e.run l.skipped).1 ∙ l.run.cut) l.some l.run.passes e.ending

substitute_one : {asks : Narrowings} {d : ℕ} {text x y a b g h r s : List ℕ} {q u : Pattern} {ps qs : List Part} {m n : Substitution} → d ≢ 92
    → ExpressionTextIn asks d text x a → IsPatternIn asks x q → Replacement d a ps g → FlagsIn asks q ps g m r
    → ExpressionTextIn asks d text y b → IsPatternIn asks y u → Replacement d b qs h → FlagsIn asks u qs h n s → (m ≡ n) × (r ≡ s)
substitute_one {asks} {d} {g = rest} {h = other} {r = r} {q = q} {u = u} {ps = ps} {qs = qs} {m = m} k x p z f y v t e =
    let text = expression_one k x.cut y.cut in
    let pattern : q ≡ u = pattern_one (subst (λ c. IsPatternIn asks c q) text.0 p) v in
    let parts = replacement_one k (subst (λ c. Replacement d c ps rest) text.1 z) t in
    flags_one (subst (λ c. FlagsIn asks c qs other m r) pattern
    (subst (λ c. FlagsIn asks q c other m r) parts.0 (subst (λ c. FlagsIn asks q ps c m r) parts.1 f))) e

tests_of : {b : ℕ} (tests : Bool) → b ≡ cond tests 116 98 → eqb b 116 ≡ tests
tests_of true h = rw h refl
tests_of false h = rw h refl

jump_one : {b : ℕ} {t u braced also : Bool} {label : Option (List ℕ)} {behind after : List ℕ} → b ≡ cond t 116 98 → b ≡ cond u 116 98
    → behind ≡ after → braced ≡ begins_with "}" behind → also ≡ begins_with "}" after → JumpTo t label braced ≡ JumpTo u label also
jump_one {t = t} {u = u} {label = label} h i one p q =
    let tests : t ≡ u = sym (tests_of t h) ∙ tests_of u i in
    let braces = p ∙ ap (begins_with "}") one ∙ sym q in
    λ k. JumpTo (tests k) label (braces k)

pub verb_one : {asks : Narrowings} {text r s : List ℕ} {v u : WrittenVerb} → VerbTextIn asks text v r → VerbTextIn asks text u s → (v ≡ u) × (r ≡ s)
verb_one (w.simple x e) (w.simple y f) = (ap Known (simple_one x y), ends_one e f)
verb_one (w.label h l n e) (w.label i m o f) = let one = label_one l m in (ap (λ t. Known (Label t)) one.0, ends_one (rw one.1 at e) f)
verb_one (w.jump {tests = t} {braced = c} h l n e p) (w.jump i m o f q) = let one = label_one l m in
    (ap (λ name. JumpTo t (Some name) c) one.0 ∙ jump_one h i one.1 p q, ends_one (rw one.1 at e) f)
verb_one (w.jump h l n e p) (w.jump_to_end i o f q) = absurd (label_or_end l f)
verb_one (w.jump_to_end h n e p) (w.jump i m o f q) = absurd (label_or_end m e)
verb_one (w.jump_to_end h n e p) (w.jump_to_end i o f q) = let one = ends_one e f in (jump_one h i one p q, one)
verb_one (w.opening h) (w.opening i) = (refl, refl)
verb_one (w.append h l g) (w.append i m k) = let one = given_one (rw (longest_one l m).1 at g) k in (ap (λ t. Known (Append t)) one.0, one.1)
verb_one (w.change h l g) (w.change i m k) = let one = given_one (rw (longest_one l m).1 at g) k in (ap (λ t. Known (Change t)) one.0, one.1)
verb_one (w.insert h l g) (w.insert i m k) = let one = given_one (rw (longest_one l m).1 at g) k in (ap (λ t. Known (Insert t)) one.0, one.1)
verb_one (w.read h n) (w.read i o) = let one = name_one n o in (ap (λ t. Known (Read t)) one.0, one.1)
verb_one (w.write h n) (w.write i o) = let one = name_one n o in (ap (λ t. Known (Write t)) one.0, one.1)
verb_one (w.substitute h d x p z g f) (w.substitute i e y q t k j) = let one =
    substitute_one (no_backslash d) x p z f y q t j in (ap (λ t. Known (Substitute t)) one.0, one.1)
verb_one (w.transliterate {delimiter = c} {behind = b} h d x m y l e) (w.transliterate {to = o} {after = a} i k z n t j f) =
    let from = list_one (no_backslash d) x z in
    let to = list_one (no_backslash d) y (subst (λ m. DelimitedList c m o a) (sym from.1) t) in
    (λ i. Known (Transliterate (from.0 i) (to.0 i)), ends_one (rw to.1 at e) f)
verb_one x y = absurd (differ (class_of x) (class_of y) refl (sym (begins x) ∙ begins y))
