-- What an address is, by its first byte, and the addresses of a command.
use Rattle.sedck_commands.proofs.Common.{◌≡◌, ◌≢◌, ℕ, ◌<◌, true, false, List, [], ◌∷◌, ◌++◌, length, Option, Some, None, option_or, ap, arith, length-append, IsTrue, Pattern, Previous, Expression, Place, Two, PlaceText, place_patterns, is_digit, begins_address, has_previous, EndsIn, unread, Cursor, unread_length, Last, address_patterns, IsAfterComma, EmptyPlace, IsFirstEmpty, AddressEmpty}
use Rattle.sedck_commands.specs.Parts as p
use Rattle.sedck_commands.specs.Private.AddressReading.{ContextText, CustomText}
use Rattle.sedck_commands.specs.ReadItems as r
use Rattle.sedck_commands.proofs.OffsetLemmas.{tail_cut, tail_tail, tail_cons, tail_length, expression_tail}

-- ---- One address

pub last_text : {text rest : List ℕ} {b : ℕ} → text ≡ b ∷ rest → b ≡ 36 → PlaceText text Last rest
last_text e h = rw e (p.last h)

pub slash_text : {text behind rest : List ℕ} {b : ℕ} {q : Place} → text ≡ b ∷ behind → b ≡ 47 → ContextText 47 behind q rest → PlaceText text q rest
slash_text e h c = rw (e, c.1) (p.context h c.2.1 c.2.2)

pub custom_text : {text behind rest : List ℕ} {b : ℕ} {q : Place} → text ≡ b ∷ behind → b ≡ 92 → CustomText behind q rest → PlaceText text q rest
custom_text e h c = rw (e, c.2, c.4.1) (p.custom h c.3 c.4.2.1 c.4.2.2)

-- a byte of an address that is none of its signs is a digit
pub only_digit : (b : ℕ) → IsTrue (begins_address b) → b ≢ 36 → b ≢ 47 → b ≢ 92 → is_digit b ≡ true
only_digit b begins f g h = grind (arith, begins, f, g, h)

-- an address takes a byte at least
place_shorter : {text rest : List ℕ} {q : Place} → PlaceText text q rest → length rest < length text
place_shorter (p.line {rest = rest} n) = omega (arith, n.some, ap length n.run.cut, length-append n.digits rest)
place_shorter (p.last h) = omega arith
place_shorter (p.context h x y) = omega (arith, tail_length (expression_tail x.cut))
place_shorter (p.custom h d x y) = omega (arith, tail_length (expression_tail x.cut))

-- so something has been read where an address has
pub place_read : {begins : List ℕ} {q : Place} (text behind : Cursor) → behind.whole ≡ text.whole → EndsIn (unread text) begins
    → PlaceText begins q (unread behind) → 0 < behind.at
place_read {begins} text behind same tail x = omega (
  arith,
  place_shorter x,
  ap length tail.1,
  length-append tail.0 begins,
  unread_length text,
  unread_length behind,
  ap (λ w. length w.now) same,
)

pub comma_tail : {text second : List ℕ} → IsAfterComma text second → EndsIn text second
comma_tail c = tail_tail (tail_cut c.before) (tail_cons 44 (tail_cut c.after))

-- ---- The first empty expression of the addresses

pub none_of_both : (ps qs : List Pattern) → has_previous ps ≡ false → has_previous qs ≡ false → has_previous (ps ++ qs) ≡ false
none_of_both [] qs h k = k
none_of_both (Previous ∷ ps) qs h k = h
none_of_both (Expression tree ∷ ps) qs h k = none_of_both ps qs h k

pub emptied_two : {text behind second : List ℕ} {p : Place} (q : Place) (size : ℕ) (o u : Option ℕ) → PlaceText text p behind
    → IsFirstEmpty (place_patterns p) (EmptyPlace size text) o → IsAfterComma behind second → IsFirstEmpty (place_patterns q) (EmptyPlace size second) u
    → IsFirstEmpty (address_patterns (Two p q)) (AddressEmpty size text) (option_or o u)
emptied_two {p = p} q size None None x h c k = none_of_both (place_patterns p) (place_patterns q) h k
emptied_two q size None (Some b) x h c k = r.second x h c k
emptied_two q size (Some a) u x h c k = r.first h
