-- The addresses of a command have one fault at most, and can't be read where they have one.
use Rattle.sedck_commands.proofs.Common.{◌≡◌, ◌≢◌, ℕ, true, List, [], ◌∷◌, refl, ap, sym, ◌∙◌, subst, arith, both_ways, not-true, not_from_false, false_from_ne_true, IsTrue, is_digit, is_delimiter, Longest, Place, Address, One, PlaceText, AddressText, WrittenVerb, VerbText, is_mark, begins_address, ScriptFault, longest_one, HasNoDelimiter, PlaceFault, IsAfterComma, BeginsNoAddress, AddressFault, AreAddresses, BadAddress, Unterminated}
use Rattle.sedck_commands.specs.Parts as p
use Rattle.sedck_commands.specs.FirstFaults as o
use Rattle.sedck_commands.proofs.FirstBytes.{heads, tails}
use Rattle.sedck_commands.proofs.UniqueVerbs.{no_backslash}
use Rattle.sedck_commands.proofs.UniqueItems.{place_class, place_begins, place_one, place_no_mark, place_other, no_verb_here, no_comma_here, longest_along}
use Rattle.sedck_commands.proofs.UniqueAddresses.{no_place, begins_no}
use Rattle.sedck_commands.proofs.OneFaultEnds.{at_one}
use Rattle.sedck_commands.proofs.OneFaultParts.{OneCause, pattern_fault_one, pattern_fault_not}

-- ---- Delimiters

pub no_newline : {d : ℕ} → IsTrue (is_delimiter d) → d ≢ 10
no_newline h e = grind (arith, h, e)

pub no_delimiter : {text behind : List ℕ} {d : ℕ} → HasNoDelimiter text → text ≡ d ∷ behind → IsTrue (is_delimiter d) → ⊥
no_delimiter {d = d} h e i = both_ways (is_delimiter d) (not-true (is_delimiter d) (subst (λ t. HasNoDelimiter t) e h)) i

-- ---- One address

abbrev fault_class : {size : ℕ} {text : List ℕ} {f : ScriptFault} → PlaceFault size text f → ℕ
fault_class (o.number e h n a) = 0
fault_class (o.context e a x) = 47
fault_class (o.undelimited e h a) = 92
fault_class (o.custom e h a x) = 92

fault_begins : {size : ℕ} {text : List ℕ} {f : ScriptFault} (x : PlaceFault size text f) → place_class text ≡ fault_class x
fault_begins (o.number e h n a) = ap place_class e ∙ rw h refl
fault_begins (o.context e a x) = ap place_class e
fault_begins (o.undelimited e h a) = ap place_class e
fault_begins (o.custom e h a x) = ap place_class e

pub place_fault_one : {size : ℕ} {text : List ℕ} {f g : ScriptFault} → OneCause → PlaceFault size text f → PlaceFault size text g → f ≡ g
place_fault_one one (o.number e h n a) (o.number i j m b) = ap BadAddress (at_one refl a b)
place_fault_one one (o.context e a x) (o.context h b y) =
    pattern_fault_one one (λ k. omega (arith, k)) (λ k. omega (arith, k)) (rw (at_one refl a b, tails (sym e ∙ h)) at x) y
place_fault_one one (o.undelimited e h a) (o.undelimited i j b) = ap Unterminated (at_one refl a b)
place_fault_one one (o.undelimited e h a) (o.custom i j b y) = absurd (no_delimiter h (tails (sym e ∙ i)) j)
place_fault_one one (o.custom e h a x) (o.undelimited i j b) = absurd (no_delimiter j (tails (sym i ∙ e)) h)
place_fault_one one (o.custom e h a x) (o.custom i j b y) =
    let behind = tails (sym e ∙ i) in
    pattern_fault_one one (no_backslash j) (no_newline j) (rw (at_one refl a b, heads behind, tails behind) at x) y
place_fault_one one x y = absurd (omega (arith, sym (fault_begins x) ∙ fault_begins y))

pub place_fault_not : {size : ℕ} {text rest : List ℕ} {q : Place} {f : ScriptFault} → PlaceFault size text f → PlaceText text q rest → ⊥
place_fault_not (o.number e h n a) (p.line m) = n _ _ m
place_fault_not (o.context e a x) (p.context h i j) = pattern_fault_not (λ k. omega (arith, k)) (λ k. omega (arith, k)) (rw (tails (sym e)) at x) (_, i, j)
place_fault_not (o.undelimited e h a) (p.custom i d j k) = no_delimiter h (tails (sym e)) d
place_fault_not (o.custom e h a x) (p.custom i d j k) =
    let behind = tails (sym e) in pattern_fault_not (no_backslash d) (no_newline d) (rw (heads behind, tails behind) at x) (_, j, k)
place_fault_not x y = omega (arith, sym (fault_begins x) ∙ place_begins y)

digit_begins : (b : ℕ) → is_digit b ≡ true → begins_address b ≡ true
digit_begins b h = rw h refl

no_fault_here : {size : ℕ} {text : List ℕ} {f : ScriptFault} → BeginsNoAddress text → PlaceFault size text f → ⊥
no_fault_here n (o.number {b = b} e h none a) = begins_no e (digit_begins b h) n
no_fault_here n (o.context e a x) = begins_no e refl n
no_fault_here n (o.undelimited e h a) = begins_no e refl n
no_fault_here n (o.custom e h a x) = begins_no e refl n

-- ---- All of them

-- what is after an address and a comma
pub second_one : {text r s t u : List ℕ} {q v : Place} → PlaceText text q r → IsAfterComma r s → PlaceText text v t → IsAfterComma t u → s ≡ u
second_one x c y d =
    let before = longest_one (longest_along (place_one x y).1 c.before) d.before in (longest_one (longest_along (tails before.1) c.after) d.after).1

comma_not : {text r s t : List ℕ} {q v : Place} → PlaceText text q r → o.HasNoComma r → PlaceText text v s → IsAfterComma s t → ⊥
comma_not x n y c = n _ _ (longest_along (place_one y x).1 c.before)

pub address_fault_one : {size : ℕ} {text : List ℕ} {f g : ScriptFault} → OneCause → AddressFault size text f → AddressFault size text g → f ≡ g
address_fault_one one (o.first x) (o.first y) = place_fault_one one x y
address_fault_one one (o.first x) (o.missing q c n a) = absurd (place_fault_not x q)
address_fault_one one (o.first x) (o.second q c y) = absurd (place_fault_not x q)
address_fault_one one (o.missing q c n a) (o.first y) = absurd (place_fault_not y q)
address_fault_one one (o.missing q c n a) (o.missing r d m b) = ap BadAddress (at_one (second_one q c r d) a b)
address_fault_one one (o.missing q c n a) (o.second r d y) = absurd (no_fault_here (subst BeginsNoAddress (second_one q c r d) n) y)
address_fault_one one (o.second q c x) (o.first y) = absurd (place_fault_not y q)
address_fault_one one (o.second q c x) (o.missing r d m b) = absurd (no_fault_here (subst BeginsNoAddress (second_one r d q c) m) x)
address_fault_one {size} {f = f} one (o.second q c x) (o.second r d y) =
    place_fault_one one (subst (λ t. PlaceFault size t f) (second_one q c r d) x) y

pub are_addresses_one : {text r s : List ℕ} {a b : Address} → AreAddresses text a r → AreAddresses text b s → (a ≡ b) × (r ≡ s)
are_addresses_one (o.none n) (o.none m) = (refl, refl)
are_addresses_one (o.none n) (o.one y m) = absurd (no_place n y)
are_addresses_one (o.none n) (o.two y d z) = absurd (no_place n y)
are_addresses_one (o.one x n) (o.none m) = absurd (no_place m x)
are_addresses_one (o.one x n) (o.one y m) = let one = place_one x y in (ap One one.0, one.1)
are_addresses_one (o.one x n) (o.two y d z) = absurd (comma_not x n y d)
are_addresses_one (o.two x c w) (o.none m) = absurd (no_place m x)
are_addresses_one (o.two x c w) (o.one y m) = absurd (comma_not y m x c)
are_addresses_one (o.two {to = to} {rest = rest} x c w) (o.two y d z) =
    let last = place_one (subst (λ t. PlaceText t to rest) (second_one x c y d) w) z in (cc ((place_one x y).0, last.0), last.1)

pub address_fault_not : {size : ℕ} {text rest : List ℕ} {a : Address} {f : ScriptFault} → AddressFault size text f → AreAddresses text a rest → ⊥
address_fault_not (o.first x) (o.none m) = no_fault_here m x
address_fault_not (o.first x) (o.one y m) = place_fault_not x y
address_fault_not (o.first x) (o.two y d z) = place_fault_not x y
address_fault_not (o.missing q c n a) (o.none m) = no_place m q
address_fault_not (o.missing q c n a) (o.one y m) = comma_not y m q c
address_fault_not (o.missing q c n a) (o.two y d z) = no_place (subst BeginsNoAddress (second_one q c y d) n) z
address_fault_not (o.second q c x) (o.none m) = no_place m q
address_fault_not (o.second q c x) (o.one y m) = comma_not y m q c
address_fault_not {size} {f = f} (o.second q c x) (o.two y d z) = place_fault_not (subst (λ t. PlaceFault size t f) (second_one q c y d) x) z

-- ---- The addresses of a command are all that are there

no_address_here : (text : List ℕ) {marks begins rest : List ℕ} {v : WrittenVerb} → Longest is_mark text marks begins → VerbText begins v rest
    → BeginsNoAddress text
no_address_here [] m v = tt
no_address_here (b ∷ text) m v = not_from_false (begins_address b) (false_from_ne_true _ (λ h. no_verb_here refl (place_no_mark b h) (place_other b h) m v))

pub all_addresses : {text r marks begins rest : List ℕ} {a : Address} {v : WrittenVerb} → AddressText text a r → Longest is_mark r marks begins
    → VerbText begins v rest → AreAddresses text a r
all_addresses (p.none {text = text}) m v = o.none (no_address_here text m v)
all_addresses (p.one x) m v = o.one x (λ blanks more l. no_comma_here l refl m v)
all_addresses (p.two {second = s} x c h d y) m v = o.two x (record { blanks = _; more = _; front = _; before = rw h at c; after = d }) y
