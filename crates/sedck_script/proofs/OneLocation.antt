-- The commands of a text have one list of locations, and each command is at its own.
use Rattle.sedck_script.proofs.Common.{◌≡◌, ℕ, Bool, List, ◌∷◌, length, Some, refl, ap, ap₂, sym, subst, ◌∙◌, inl, inr, arith, length-append, Address, zero, suc, Item, Written, WrittenVerb, VerbText, Items, EndsIn, tail_cut, tail_tail, tail_behind, ends_tail, verb_text_tail, commands_among, drop, ◌-◌, slice_get, drop-append_seam, CommandText, location_of, locations_of, AreAddresses, Location, longest_one, heads, tails, ends_one, longest_along, command_one, no_command_other, no_command_end, empty_is_not, address_tail, are_addresses_one, all_addresses}
use Rattle.sedck_commands.specs.Items as w

-- where one command is, and where what follows it begins
location_one : {text other rest left : List ℕ} {a b : Address} {m n : Bool} {v u : WrittenVerb} (size : ℕ) → text ≡ other
    → (c : CommandText text a m v rest) (d : CommandText other b n u left) → (location_of size c ≡ location_of size d) × (rest ≡ left)
location_one {text} {other} {rest} {left} {a} {m = m} {v = v} size e c d =
    let addresses = are_addresses_one (subst (λ t. AreAddresses t a c.behind) e (all_addresses c.addresses c.run c.verbs))
    (all_addresses d.addresses d.run d.verbs) in
    let verbs = (longest_one (longest_along addresses.1 c.run) d.run).1 in
    let rests = (command_one (subst (λ t. CommandText t a m v rest) e c) d).1 in
    (λ i. record { start = size - length (e i); verb = size - length (verbs i); end = size - length (rests i) }, rests)

pub locations_one : {text other : List ℕ} {items others : List Item} (size : ℕ) → text ≡ other → (x : Items text items) (y : Items other others)
    → locations_of size x ≡ locations_of size y
locations_one size e (w.nothing l) (w.nothing m) = refl
locations_one size e (w.nothing l) (w.comment m h n r y) = empty_is_not (longest_one (longest_along e l) m).1
locations_one size e (w.nothing l) (w.closing m h f y) = empty_is_not (longest_one (longest_along e l) m).1
locations_one size e (w.nothing l) (w.command m c y) = no_command_end (longest_one m (longest_along e l)).1 c
locations_one size e (w.comment l g k r x) (w.nothing m) = empty_is_not (longest_one m (longest_along e l)).1
locations_one size e (w.comment l g k r x) (w.comment m h n s y) =
    locations_one size (longest_one (longest_along (tails (longest_one (longest_along e l) m).1) k) n).1 x y
locations_one size e (w.comment l g k r x) (w.closing m h f y) = absurd (omega (arith, heads (longest_one (longest_along e l) m).1, g, h))
locations_one size e (w.comment l g k r x) (w.command m c y) = no_command_other (longest_one m (longest_along e l)).1 (inl g) c
locations_one size e (w.closing l g k x) (w.nothing m) = empty_is_not (longest_one m (longest_along e l)).1
locations_one size e (w.closing l g k x) (w.comment m h n r y) = absurd (omega (arith, heads (longest_one (longest_along e l) m).1, g, h))
locations_one size e (w.closing l g k x) (w.closing m h f y) =
    locations_one size (ends_one (rw (tails (longest_one (longest_along e l) m).1) at k) f) x y
locations_one size e (w.closing l g k x) (w.command m c y) = no_command_other (longest_one m (longest_along e l)).1 (inr g) c
locations_one size e (w.command l c x) (w.nothing m) = no_command_end (longest_one (longest_along e l) m).1 c
locations_one size e (w.command l c x) (w.comment m h n r y) = no_command_other (longest_one (longest_along e l) m).1 (inl h) c
locations_one size e (w.command l c x) (w.closing m h f y) = no_command_other (longest_one (longest_along e l) m).1 (inr h) c
locations_one size e (w.command l c x) (w.command m d y) =
    let one = location_one size (longest_one (longest_along e l) m).1 c d in ap₂ (λ t ts. t ∷ ts) one.0 (locations_one size one.1 x y)

-- ---- Where a command is

-- the end of a text is what is left behind the bytes before it
end_at : {whole text : List ℕ} → EndsIn whole text → drop (length whole - length text) whole ≡ text
end_at {whole} {text} h =
    let size : length whole - length text ≡ length h.0 = omega (arith, ap length h.1, length-append h.0 text) in
    ap (λ n. drop n whole) size ∙ ap (drop (length h.0)) h.1 ∙ drop-append_seam h.0 text

-- the command at this place among the items is at its location, and its verb too
pub command_at : (whole : List ℕ) {text : List ℕ} {items : List Item} (x : Items text items) (k : ℕ) {location : Location} → EndsIn whole text
    → slice_get (locations_of (length whole) x) k ≡ Some location
    → (a : Address) × (n : Bool) × (v : WrittenVerb) × (rest : List ℕ) × (slice_get (commands_among items) k ≡ Some (Written a n v))
    × CommandText (drop location.start whole) a n v rest × VerbText (drop location.verb whole) v rest
command_at whole (w.nothing l) k h s = absurd (cc s)
command_at whole (w.comment l g r o x) k h s = command_at whole x k (tail_tail (tail_behind (tail_tail h (tail_cut l)) refl) (tail_cut r)) s
command_at whole (w.closing l g r x) k h s = command_at whole x k (tail_tail (tail_behind (tail_tail h (tail_cut l)) refl) (ends_tail r)) s
command_at whole (w.command {rest = rest} {address = a} {negated = n} {verb = v} l c x) zero {location = location} h s =
    let here : location_of (length whole) c ≡ location = cc s in
    let begins = tail_tail h (tail_cut l) in
    let start = sym (end_at begins) ∙ ap (λ t. drop t.start whole) here in
    let verb = sym (end_at (tail_tail begins (tail_tail (address_tail c.addresses) (tail_cut c.run)))) ∙ ap (λ t. drop t.verb whole) here in
    (a, n, v, rest, refl, subst (λ t. CommandText t a n v rest) start c, subst (λ t. VerbText t v rest) verb c.verbs)
command_at whole (w.command l c x) (suc k) h s =
    command_at whole x k
    (tail_tail h (tail_tail (tail_cut l) (tail_tail (address_tail c.addresses) (tail_tail (tail_cut c.run) (verb_text_tail c.verbs))))) s
