use Rattle.sedck_explanation.proofs.Common.{◌≡◌, map, take}
use Rattle.sedck_explanation.proofs.explaining.verb_positions.Given as goal

abbrev pub invariant-loop-location : goal.invariant-loop-location
invariant-loop-location l = l.offsets.items ≡ map (λ location. location.verb) (take l.location-index l.locations)
