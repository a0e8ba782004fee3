use Rattle.sedck_commands.proofs.Common.{◌≡◌, ◌∙◌, true, ap, sym, place_patterns, has_previous, arith, unread_length}
use Rattle.sedck_commands.specs.View as view
use Rattle.sedck_commands.proofs.EmptyPlaces.{emptied_place}
use Rattle.sedck_commands.proofs.addresses.empty_offset.Goals as goal

pub returns-then-is_previous : goal.returns-then-is_previous
returns-then-is_previous c = λ text read.
    let some : has_previous (place_patterns (view.place_of c.args.place.now)) ≡ true =
    ap (λ p. has_previous (place_patterns (view.place_of p))) c.in-Context.is ∙ sym c.is_previous.ensures ∙ c.if-is_previous.true in
    emptied_place _ _ (omega (arith, c.offset.ensures, c.requires, unread_length c.args.behind)) read some
