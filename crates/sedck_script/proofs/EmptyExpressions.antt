-- The first empty expression of a command is at one place, and is a pattern of the command.
use Rattle.sedck_script.proofs.Common.{◌≡◌, ℕ, Bool, true, false, List, [], ◌∷◌, ◌++◌, refl, ap, sym, subst, ◌∙◌, inl, inr, arith, false≢true, IsTrue, Pattern, Previous, Expression, Address, WrittenVerb, VerbText, address_patterns, place_patterns, has_previous, is_mark, is_delimiter, Longest, Place, Context, ExpressionText, IsPatternIn, PlaceText, CommandText, read_alike, written_patterns, AddressEmpty, CommandEmpty, BeginsNoAddress, AreAddresses, EmptyPlace, EmptyVerb, both_ways, not-true, longest_one, heads, tails, expression_one, pattern_one, place_class, place_begins, place_one, longest_along, no_place, flags_leave, at_one, second_one, are_addresses_one, all_addresses}
use Rattle.sedck_commands.specs.Parts as p
use Rattle.sedck_commands.specs.Items as w
use Rattle.sedck_commands.specs.ReadItems as r
use Rattle.sedck_commands.specs.FirstFaults as o
use Rattle.sedck_commands.proofs.UniqueVerbs.{no_backslash, head_class, begins}

pub previous_left : (xs ys : List Pattern) → has_previous xs ≡ true → has_previous (xs ++ ys) ≡ true
previous_left [] ys h = absurd (false≢true h)
previous_left (Previous ∷ xs) ys h = refl
previous_left (Expression t ∷ xs) ys h = previous_left xs ys h

pub previous_right : (xs ys : List Pattern) → has_previous ys ≡ true → has_previous (xs ++ ys) ≡ true
previous_right [] ys h = h
previous_right (Previous ∷ xs) ys h = refl
previous_right (Expression t ∷ xs) ys h = previous_right xs ys h

-- an expression whose delimiter is there at once is empty
empty_pattern : {d : ℕ} {text rest expression behind : List ℕ} {pattern : Pattern} → IsTrue (is_delimiter d) → text ≡ d ∷ rest
    → ExpressionText d text expression behind → IsPatternIn read_alike expression pattern → pattern ≡ Previous
empty_pattern {d} {rest = rest} {expression = expression} {behind = behind} {pattern = pattern} h e x i =
    let cut = subst (λ t. p.DelimitedExpression d t expression behind) e x.cut in
    let none = (expression_one (no_backslash h) cut (p.ends {rest = rest} refl)).0 in
    pattern_one (subst (λ t. IsPatternIn read_alike t pattern) none i) p.previous

-- ---- Addresses

-- an address that begins with an empty expression is that expression
place_empty : (size offset : ℕ) {text rest : List ℕ} {q : Place} → EmptyPlace size text offset → PlaceText text q rest → q ≡ Context Previous
place_empty size offset (inl e) (p.context h x i) = ap Context (empty_pattern refl (tails e.1) x i)
place_empty size offset (inr e) (p.custom h d x i) =
    let behind = tails e.2 ∙ e.3.1 in
    ap Context (empty_pattern d (tails behind ∙ ap (λ k. k ∷ e.3.0) (sym (heads behind))) x i)
place_empty size offset (inl e) (p.line n) = absurd (omega (arith, sym (place_begins {asks = read_alike} (p.line n)) ∙ ap place_class e.1))
place_empty size offset (inl e) (p.last h) = absurd (omega (arith, h, heads e.1))
place_empty size offset (inl e) (p.custom h d x i) = absurd (omega (arith, h, heads e.1))
place_empty size offset (inr e) (p.line n) = absurd (omega (arith, sym (place_begins {asks = read_alike} (p.line n)) ∙ ap place_class e.2))
place_empty size offset (inr e) (p.last h) = absurd (omega (arith, h, heads e.2))
place_empty size offset (inr e) (p.context h x i) = absurd (omega (arith, h, heads e.2))

place_empty_one : {size m n : ℕ} {text : List ℕ} → EmptyPlace size text m → EmptyPlace size text n → m ≡ n
place_empty_one (inl e) (inl f) = at_one (tails (sym e.1 ∙ f.1)) e.3 f.3
place_empty_one (inl e) (inr f) = absurd (omega (arith, heads (sym e.1 ∙ f.2)))
place_empty_one (inr e) (inl f) = absurd (omega (arith, heads (sym e.2 ∙ f.1)))
place_empty_one (inr e) (inr f) = at_one (tails (sym e.3.1 ∙ tails (sym e.2 ∙ f.2) ∙ f.3.1)) e.3.3 f.3.3

no_empty_here : (size offset : ℕ) {text : List ℕ} → BeginsNoAddress text → EmptyPlace size text offset → ⊥
no_empty_here size offset n (inl e) = both_ways _ (not-true _ (subst BeginsNoAddress e.1 n)) refl
no_empty_here size offset n (inr e) = both_ways _ (not-true _ (subst BeginsNoAddress e.2 n)) refl

address_empty : {size offset : ℕ} {text rest : List ℕ} {a : Address} → AreAddresses text a rest → AddressEmpty size text offset
    → has_previous (address_patterns a) ≡ true
address_empty {size} {offset} (o.none n) (r.first e) = absurd (no_empty_here size offset n e)
address_empty (o.none n) (r.second y free c e) = absurd (no_place n y)
address_empty {size} {offset} (o.one x m) (r.first e) = ap (λ q. has_previous (place_patterns q)) (place_empty size offset e x)
address_empty (o.one x m) (r.second y free c e) = absurd (m _ _ (longest_along (place_one y x).1 c.before))
address_empty {size} {offset} (o.two {from = q} {to = v} x c z) (r.first e) =
    previous_left (place_patterns q) (place_patterns v) (ap (λ u. has_previous (place_patterns u)) (place_empty size offset e x))
address_empty {size} {offset} (o.two {from = q} {to = v} x c z) (r.second y free d e) =
    let empty = subst (λ t. EmptyPlace size t offset) (second_one y d x c) e in
    previous_right (place_patterns q) (place_patterns v) (ap (λ u. has_previous (place_patterns u)) (place_empty size offset empty z))

not_empty : (size offset : ℕ) {text behind : List ℕ} {q : Place} {B : Type 0} → EmptyPlace size text offset → PlaceText text q behind
    → has_previous (place_patterns q) ≡ false → B
not_empty size offset e x free = absurd (false≢true (sym free ∙ ap (λ q. has_previous (place_patterns q)) (place_empty size offset e x)))

address_empty_one : {size m n : ℕ} {text : List ℕ} → AddressEmpty size text m → AddressEmpty size text n → m ≡ n
address_empty_one (r.first e) (r.first f) = place_empty_one e f
address_empty_one {size} {m} (r.first e) (r.second y free d f) = not_empty size m e y free
address_empty_one {size} {n = n} (r.second x free c e) (r.first f) = not_empty size n f x free
address_empty_one {size} {m} (r.second x free c e) (r.second y neither d f) =
    place_empty_one (subst (λ t. EmptyPlace size t m) (second_one x c y d) e) f

-- ---- Verbs

verb_empty : (size offset : ℕ) {text rest : List ℕ} {v : WrittenVerb} → EmptyVerb size text offset → VerbText text v rest
    → has_previous (written_patterns v) ≡ true
verb_empty size offset e (w.substitute {substitution = s} h d x i z g f) =
    let behind = tails e.2 ∙ e.3.1 in
    let none = empty_pattern d (tails behind ∙ ap (λ k. k ∷ e.3.0) (sym (heads behind))) x i in
    ap (λ q. has_previous (q ∷ [])) ((flags_leave f).0 ∙ none)
verb_empty size offset e x = absurd (omega (arith, sym (begins x) ∙ ap head_class e.2))

verb_empty_one : {size m n : ℕ} {text : List ℕ} → EmptyVerb size text m → EmptyVerb size text n → m ≡ n
verb_empty_one e f = at_one (tails (sym e.3.1 ∙ tails (sym e.2 ∙ f.2) ∙ f.3.1)) e.3.3 f.3.3

-- ---- Commands

-- where the verb begins
verb_begins : {text behind marks begins after others starts : List ℕ} {a b : Address} → AreAddresses text a behind → Longest is_mark behind marks begins
    → AreAddresses text b after → Longest is_mark after others starts → begins ≡ starts
verb_begins x l y m = (longest_one (longest_along (are_addresses_one x y).1 l) m).1

pub command_empty : {size offset : ℕ} {text rest : List ℕ} {a : Address} {n : Bool} {v : WrittenVerb} → CommandEmpty size text offset
    → CommandText text a n v rest → has_previous (address_patterns a ++ written_patterns v) ≡ true
command_empty {a = a} {v = v} (r.of_address e) c =
    previous_left (address_patterns a) (written_patterns v) (address_empty (all_addresses c.addresses c.run c.verbs) e)
command_empty {size} {offset} {a = a} {v = v} (r.of_verb x free l e) c =
    let same = verb_begins x l (all_addresses c.addresses c.run c.verbs) c.run in
    previous_right (address_patterns a) (written_patterns v) (verb_empty size offset (subst (λ t. EmptyVerb size t offset) same e) c.verbs)

pub command_empty_one : {size m n : ℕ} {text : List ℕ} → CommandEmpty size text m → CommandEmpty size text n → m ≡ n
command_empty_one (r.of_address e) (r.of_address f) = address_empty_one e f
command_empty_one (r.of_address e) (r.of_verb y free l f) = absurd (false≢true (sym free ∙ address_empty y e))
command_empty_one (r.of_verb x free l e) (r.of_address f) = absurd (false≢true (sym free ∙ address_empty x f))
command_empty_one {size} {m} (r.of_verb x free l e) (r.of_verb y neither k f) =
    verb_empty_one (subst (λ t. EmptyVerb size t m) (verb_begins x l y k) e) f
