use Rattle.sedck_script.proofs.Common.{ap, ◌∙◌, address_patterns, place_patterns, address_of, place_of}
use Rattle.sedck_script.proofs.ShortestLemmas.{trees_of, trees_of-append, least_of_same, lesser_is_least}
use Rattle.sedck_script.proofs.expressions.least_of_address.Goals as goal

pub returns-in-Two : goal.returns-in-Two
returns-in-Two c =
    let from = place_patterns (place_of c.in-Two.from) in
    let to = place_patterns (place_of c.in-Two.to) in
    least_of_same _ _ _ _ (ap (λ a. trees_of (address_patterns (address_of a))) c.in-Two.is ∙ trees_of-append from to) c.lesser.ensures
    (lesser_is_least (trees_of from) (trees_of to) _ _ c.least_of_place-in-Two.ensures c.least_of_place-in-Two-2.ensures)
