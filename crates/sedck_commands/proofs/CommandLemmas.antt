-- A command is its addresses, its marks and its verb.
use Rattle.sedck_commands.proofs.Common.{◌≡◌, ℕ, Bool, List, [], ◌++◌, Option, Some, None, length, refl, ap, arith, option_or, Longest, Pattern, Address, AddressText, WrittenVerb, CommandText, EndsIn, is_mark, location_of, Location, unread, Cursor, unread_length, address_patterns, AreAddresses, EmptyVerb, IsFirstEmpty, AddressEmpty, CommandEmpty}
use Rattle.sedck_commands.specs.Parts as p
use Rattle.sedck_commands.specs.ReadItems as r
use Rattle.sedck_commands.proofs.OffsetLemmas.{tail_cut, tail_tail, tail_cons}
use Rattle.sedck_commands.proofs.UniqueAddresses.{place_tail}
use Rattle.sedck_commands.proofs.AddressLemmas.{none_of_both}

pub address_tail : {text rest : List ℕ} {a : Address} → AddressText text a rest → EndsIn text rest
address_tail p.none = ([], refl)
address_tail (p.one x) = place_tail x
address_tail (p.two {b = b} x l e m y) = tail_tail (place_tail x) (tail_tail (tail_cut l) (tail_cons b (tail_tail (tail_cut m) (place_tail y))))

-- ---- Locations

abbrev location_at : ℕ → ℕ → ℕ → Location
location_at start verb end = record { start = start; verb = verb; end = end }

location_same : {a b c x y z : ℕ} → a ≡ x → b ≡ y → c ≡ z → location_at a b c ≡ location_at x y z
location_same e f g = rw (e, f, g) refl

-- the offsets of a command are where it is in its text
pub location_here : {address : Address} {negated : Bool} {verb : WrittenVerb} {x y z : ℕ} (start begins rest : Cursor)
    → begins.whole ≡ start.whole → rest.whole ≡ start.whole → (command : CommandText (unread start) address negated verb (unread rest))
    → command.begins ≡ unread begins → x ≡ start.at → y ≡ begins.at → z ≡ rest.at → location_at x y z ≡ location_of (length start.whole.now) command
location_here start begins rest same all command e h k m = location_same
    (omega (arith, unread_length start, h))
    (omega (arith, unread_length begins, ap (λ w. length w.now) same, ap length e, k))
    (omega (arith, unread_length rest, ap (λ w. length w.now) all, m))

-- ---- Empty expressions

-- the first empty expression of a command
pub emptied_command : {text behind marks begins : List ℕ} {a : Address} (size : ℕ) (ps : List Pattern) (o u : Option ℕ)
    → IsFirstEmpty (address_patterns a) (AddressEmpty size text) o → AreAddresses text a behind → Longest is_mark behind marks begins
    → IsFirstEmpty ps (EmptyVerb size begins) u → IsFirstEmpty (address_patterns a ++ ps) (CommandEmpty size text) (option_or o u)
emptied_command {a = a} size ps None None h x l k = none_of_both (address_patterns a) ps h k
emptied_command size ps None (Some b) h x l k = r.of_verb x h l k
emptied_command size ps (Some a) u h x l k = r.of_address h
