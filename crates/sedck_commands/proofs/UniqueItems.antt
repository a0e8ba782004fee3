-- A text has one list of items at most.
use Rattle.sedck_commands.proofs.Common.{◌≡◌, ◌≢◌, ℕ, Bool, true, false, not, ◌||◌, eqb, cond, List, [], ◌∷◌, refl, ap, sym, ◌∙◌, subst, inl, inr, ◌⊎◌, arith, list_any, list_all, false≢true, or_left, and_parts, and_from, one_of, is_blank, is_digit, Longest, Pattern, Place, Address, One, Verb, ExpressionTextIn, IsPatternIn, PlaceTextIn, AddressTextIn, WrittenVerb, Simple, Item, Written, VerbTextIn, CommandTextIn, ItemsIn, is_mark, longest_one, Narrowings, Line, Context, begins_address}
use Rattle.sedck_commands.specs.Parts as p
use Rattle.sedck_commands.specs.Items as w
use Rattle.sedck_commands.proofs.FirstBytes.{heads, tails}
use Rattle.sedck_commands.proofs.UniqueParts.{ends_one, number_one, number_first, expression_one, pattern_one}
use Rattle.sedck_commands.proofs.UniqueVerbs.{verb_one, no_backslash}
use Rattle.sedck_commands.proofs.OffsetLemmas.{verb_takes}

-- a byte with which no verb begins: one that begins an address, a comma, `#` or `}`
abbrev is_other : ℕ → Bool
is_other b = is_digit b || one_of "$/\\,#}" b

simple_no_other : {b : ℕ} {v : Verb} → Simple b v → is_other b ≡ false
simple_no_other w.line_number = refl
simple_no_other _ = refl

jump_no_other : (tests : Bool) → is_other (cond tests 116 98) ≡ false
jump_no_other true = refl
jump_no_other false = refl

verb_no_other : {asks : Narrowings} {b : ℕ} {t text rest : List ℕ} {v : WrittenVerb} → t ≡ b ∷ text → VerbTextIn asks t v rest → is_other b ≡ false
verb_no_other e (w.simple x f) = rw (← heads e) (simple_no_other x)
verb_no_other e (w.label h l n f) = ap is_other (sym (heads e) ∙ h)
verb_no_other e (w.jump {tests = t} h l n f brace) = ap is_other (sym (heads e) ∙ h) ∙ jump_no_other t
verb_no_other e (w.jump_to_end {tests = t} h n f brace) = ap is_other (sym (heads e) ∙ h) ∙ jump_no_other t
verb_no_other e (w.opening h) = ap is_other (sym (heads e) ∙ h)
verb_no_other e (w.append h l g) = ap is_other (sym (heads e) ∙ h)
verb_no_other e (w.change h l g) = ap is_other (sym (heads e) ∙ h)
verb_no_other e (w.insert h l g) = ap is_other (sym (heads e) ∙ h)
verb_no_other e (w.read h n) = ap is_other (sym (heads e) ∙ h)
verb_no_other e (w.write h n) = ap is_other (sym (heads e) ∙ h)
verb_no_other e (w.substitute h d x y z g f) = ap is_other (sym (heads e) ∙ h)
verb_no_other e (w.transliterate h d x m y l f) = ap is_other (sym (heads e) ∙ h)

pub place_first : {asks : Narrowings} {text rest : List ℕ} {q : Place} → PlaceTextIn asks text q rest
    → (b : ℕ) × (more : List ℕ) × (text ≡ b ∷ more) × (begins_address b ≡ true)
place_first (p.line n) = let f = number_first n in (f.0, f.1, f.2, or_left (is_digit f.0) _ f.3)
place_first (p.last {b = b} {rest = r} h) = (b, r, refl, ap begins_address h)
place_first (p.context {b = b} h x y) = (b, _, refl, ap begins_address h)
place_first (p.custom {b = b} h d x y) = (b, _, refl, ap begins_address h)

pub place_other : (b : ℕ) → begins_address b ≡ true → is_other b ≡ true
place_other b h = grind (arith, h)

pub place_no_mark : (b : ℕ) → begins_address b ≡ true → not (is_mark b) ≡ true
place_no_mark b h = grind (arith, h)

-- a command whose verb follows at once doesn't begin with another byte
pub no_verb_here : {asks : Narrowings} {text marks begins rest : List ℕ} {b : ℕ} {more : List ℕ} {v : WrittenVerb} → text ≡ b ∷ more → not (is_mark b) ≡ true
    → is_other b ≡ true → Longest is_mark text marks begins → VerbTextIn asks begins v rest → ⊥
no_verb_here {text = text} {b = b} {more = more} e n o l v =
    let here : Longest is_mark text [] text = record { cut = refl; passes = refl; stops = rw e n } in
    false≢true (sym (verb_no_other ((longest_one l here).1 ∙ e) v) ∙ o)

pub no_place_here : {asks : Narrowings} {text marks begins rest r : List ℕ} {q : Place} {v : WrittenVerb} → PlaceTextIn asks text q r
    → Longest is_mark text marks begins
    → VerbTextIn asks begins v rest → ⊥
no_place_here x l v = let f = place_first x in no_verb_here f.2 (place_no_mark f.0 f.3) (place_other f.0 f.3) l v

blanks_mark : (text : List ℕ) → list_all is_blank text ≡ true → list_all is_mark text ≡ true
blanks_mark [] h = refl
blanks_mark (b ∷ text) h = let both = and_parts (is_blank b) (list_all is_blank text) h in
    and_from (is_mark b) (list_all is_mark text) (or_left (is_blank b) _ both.0) (blanks_mark text both.1)

-- after an address and blanks, a comma is no verb
pub no_comma_here : {asks : Narrowings} {text blanks more marks begins rest : List ℕ} {b : ℕ} {v : WrittenVerb} → Longest is_blank text blanks (b ∷ more)
    → b ≡ 44
    → Longest is_mark text marks begins → VerbTextIn asks begins v rest → ⊥
no_comma_here {text = text} {blanks = blanks} {more = more} {b = b} c h l v =
    let here : Longest is_mark text blanks (b ∷ more) = record { cut = c.cut; passes = blanks_mark blanks c.passes; stops = rw h refl } in
    false≢true (sym (verb_no_other (longest_one l here).1 v) ∙ ap is_other h)

pub longest_along : {test : ℕ → Bool} {a b front rest : List ℕ} → a ≡ b → Longest test a front rest → Longest test b front rest
longest_along {test} {a} {b} {front} {rest} h l = subst (λ t. Longest test t front rest) h l

no_run : (test : ℕ → Bool) → Longest test [] [] []
no_run test = record { cut = refl; passes = refl; stops = tt }

context_one : {asks : Narrowings} {d : ℕ} {text e f r s : List ℕ} {q u : Pattern} → d ≢ 92 → ExpressionTextIn asks d text e r → IsPatternIn asks e q
    → ExpressionTextIn asks d text f s → IsPatternIn asks f u → (Context q ≡ Context u) × (r ≡ s)
context_one {asks} {q = q} n x i y j = let one = expression_one n x.cut y.cut in (ap Context (pattern_one (subst (λ c. IsPatternIn asks c q) one.0 i) j), one.1)

-- the byte with which an address begins, or 0 for a digit
abbrev pub place_class : List ℕ → ℕ
place_class [] = 0
place_class (b ∷ text) = cond (is_digit b) 0 b

abbrev pub place_of : {asks : Narrowings} {text r : List ℕ} {q : Place} → PlaceTextIn asks text q r → ℕ
place_of (p.line n) = 0
place_of (p.last h) = 36
place_of (p.context h x y) = 47
place_of (p.custom h d x y) = 92

pub place_begins : {asks : Narrowings} {text r : List ℕ} {q : Place} (x : PlaceTextIn asks text q r) → place_class text ≡ place_of x
place_begins (p.line n) = let first = number_first n in ap place_class first.2 ∙ rw first.3 refl
place_begins (p.last h) = rw h refl
place_begins (p.context h x y) = rw h refl
place_begins (p.custom h d x y) = rw h refl

pub place_one : {asks : Narrowings} {text r s : List ℕ} {q u : Place} → PlaceTextIn asks text q r → PlaceTextIn asks text u s → (q ≡ u) × (r ≡ s)
place_one (p.line n) (p.line m) = let one = number_one n m in (ap Line one.0, one.1)
place_one (p.last h) (p.last g) = (refl, refl)
place_one (p.context h x y) (p.context g i j) = context_one (λ e. omega arith) x y i j
place_one (p.custom h d x y) (p.custom g e i j) = context_one (no_backslash d) x y i j
place_one x y = absurd (omega (arith, sym (place_begins x) ∙ place_begins y))

-- two readings of a command's addresses, each with its marks and its verb
address_one : {asks : Narrowings} {text r s marks begins rest others starts left : List ℕ} {a b : Address} {v u : WrittenVerb}
    → AddressTextIn asks text a r → Longest is_mark r marks begins → VerbTextIn asks begins v rest
    → AddressTextIn asks text b s → Longest is_mark s others starts → VerbTextIn asks starts u left → (a ≡ b) × (r ≡ s)
address_one p.none l v p.none m u = (refl, refl)
address_one p.none l v (p.one x) m u = absurd (no_place_here x l v)
address_one p.none l v (p.two x c h d y) m u = absurd (no_place_here x l v)
address_one (p.one x) l v p.none m u = absurd (no_place_here x m u)
address_one (p.one x) l v (p.one y) m u = let one = place_one x y in (ap One one.0, one.1)
address_one (p.one x) l v (p.two y c h d z) m u = absurd (no_comma_here (longest_along (sym (place_one x y).1) c) h l v)
address_one (p.two x c h d z) l v p.none m u = absurd (no_place_here x m u)
address_one (p.two x c h d z) l v (p.one y) m u = absurd (no_comma_here (longest_along (place_one x y).1 c) h m u)
address_one (p.two x c h d z) l v (p.two y i j k o) m u =
    let first = place_one x y in
    let blanks = longest_one (longest_along first.1 c) i in
    let second = longest_one (longest_along (tails blanks.1) d) k in
    let last = place_one (rw second.1 at z) o in (cc (first.0, last.0), last.1)

pub command_one : {asks : Narrowings} {text r s : List ℕ} {a b : Address} {m n : Bool} {v u : WrittenVerb} → CommandTextIn asks text a m v r
    → CommandTextIn asks text b n u s
    → (Written a m v ≡ Written b n u) × (r ≡ s)
command_one x y =
    let one = address_one x.addresses x.run x.verbs y.addresses y.run y.verbs in
    let marks = longest_one (longest_along one.1 x.run) y.run in
    let verbs = verb_one (rw marks.1 at x.verbs) y.verbs in
    (cc (one.0, x.mark ∙ ap (list_any (λ b. eqb b 33)) marks.0 ∙ sym y.mark, verbs.0), verbs.1)

-- a command begins neither with `#` nor with `}`, and not at the end
other_byte : {b : ℕ} → (b ≡ 35) ⊎ (b ≡ 125) → (is_other b ≡ true) × (not (is_mark b) ≡ true) × (begins_address b ≡ false)
other_byte (inl e) = (rw e refl, rw e refl, rw e refl)
other_byte (inr e) = (rw e refl, rw e refl, rw e refl)

no_place_other : {asks : Narrowings} {t text r : List ℕ} {b : ℕ} {q : Place} → t ≡ b ∷ text → begins_address b ≡ false → PlaceTextIn asks t q r → ⊥
no_place_other e h x = let f = place_first x in false≢true (sym h ∙ ap begins_address (heads (sym e ∙ f.2)) ∙ f.3)

no_address_other : {asks : Narrowings} {t text r marks begins rest : List ℕ} {b : ℕ} {a : Address} {v : WrittenVerb} → t ≡ b ∷ text → (b ≡ 35) ⊎ (b ≡ 125)
    → AddressTextIn asks t a r → Longest is_mark r marks begins → VerbTextIn asks begins v rest → ⊥
no_address_other e h p.none l v = let o = other_byte h in no_verb_here e o.1 o.0 l v
no_address_other e h (p.one x) l v = no_place_other e (other_byte h).2 x
no_address_other e h (p.two x c k d z) l v = no_place_other e (other_byte h).2 x

pub no_command_other : {asks : Narrowings} {t text r : List ℕ} {b : ℕ} {a : Address} {m : Bool} {v : WrittenVerb} {B : Type 0} → t ≡ b ∷ text
    → (b ≡ 35) ⊎ (b ≡ 125)
    → CommandTextIn asks t a m v r → B
no_command_other e h x = absurd (no_address_other e h x.addresses x.run x.verbs)

verb_some : {asks : Narrowings} {t r : List ℕ} {v : WrittenVerb} → t ≡ [] → VerbTextIn asks t v r → ⊥
verb_some e x = let some = verb_takes x in absurd (cc (e, some.2))

no_place_end : {asks : Narrowings} {t r : List ℕ} {q : Place} → t ≡ [] → PlaceTextIn asks t q r → ⊥
no_place_end e x = let f = place_first x in absurd (cc (e, f.2))

no_address_end : {asks : Narrowings} {t r marks begins rest : List ℕ} {a : Address} {v : WrittenVerb} → t ≡ [] → AddressTextIn asks t a r
    → Longest is_mark r marks begins
    → VerbTextIn asks begins v rest → ⊥
no_address_end e p.none l v = verb_some (longest_one (longest_along e l) (no_run is_mark)).1 v
no_address_end e (p.one x) l v = no_place_end e x
no_address_end e (p.two x c k d z) l v = no_place_end e x

pub no_command_end : {asks : Narrowings} {t r : List ℕ} {a : Address} {m : Bool} {v : WrittenVerb} {B : Type 0} → t ≡ [] → CommandTextIn asks t a m v r → B
no_command_end e x = absurd (no_address_end e x.addresses x.run x.verbs)

pub empty_is_not : {b : ℕ} {t : List ℕ} {B : Type 0} → [] ≡ b ∷ t → B
empty_is_not e = absurd (cc e)

pub items_one : {asks : Narrowings} {text : List ℕ} {items others : List Item} → ItemsIn asks text items → ItemsIn asks text others → items ≡ others
items_one (w.nothing l) (w.nothing m) = refl
items_one (w.nothing l) (w.comment m h n r y) = empty_is_not (longest_one l m).1
items_one (w.nothing l) (w.closing m h f y) = empty_is_not (longest_one l m).1
items_one (w.nothing l) (w.command m c y) = no_command_end (longest_one m l).1 c
items_one (w.comment l g k r x) (w.nothing m) = empty_is_not (longest_one m l).1
items_one (w.comment l g k r x) (w.comment m h n s y) =
    let lines = longest_one (longest_along (tails (longest_one l m).1) k) n in items_one x (rw (← lines.1) at y)
items_one (w.comment l g k r x) (w.closing m h f y) = absurd (omega (arith, heads (longest_one l m).1, g, h))
items_one (w.comment l g k r x) (w.command m c y) = no_command_other (longest_one m l).1 (inl g) c
items_one (w.closing l g e x) (w.nothing m) = empty_is_not (longest_one m l).1
items_one (w.closing l g e x) (w.comment m h n r y) = absurd (omega (arith, heads (longest_one l m).1, g, h))
items_one (w.closing l g e x) (w.closing m h f y) =
    let rests = ends_one (rw (tails (longest_one l m).1) at e) f in cc (items_one x (rw (← rests) at y))
items_one (w.closing l g e x) (w.command m c y) = no_command_other (longest_one m l).1 (inr g) c
items_one (w.command l c x) (w.nothing m) = no_command_end (longest_one l m).1 c
items_one (w.command l c x) (w.comment m h n r y) = no_command_other (longest_one l m).1 (inl h) c
items_one (w.command l c x) (w.closing m h f y) = no_command_other (longest_one l m).1 (inr h) c
items_one (w.command l c x) (w.command m d y) =
    let one = command_one (rw (longest_one l m).1 at c) d in cc (one.0, items_one x (rw (← one.1) at y))
