use Rattle.sedck_explanation.proofs.Common.{◌≡◌, ◌∙◌, ap, map, take, position_in}
use Rattle.std.proofs.Common.{arith}
use Rattle.std.proofs.lemmas.List.{take_all}
use Rattle.std.proofs.lemmas.Simd.{map-map}
use Rattle.sedck_explanation.proofs.Answering.{on_ok}
use Rattle.sedck_explanation.proofs.explaining.verb_positions.Goals as goal

pub returns : goal.returns
returns c =
    let text = c.args.text.now in
    let all : take c.loop-location.location-index c.args.locations.now ≡ c.args.locations.now =
    take_all _ _ (omega (arith, c.loop-location-test.false, c.loop-location.auto.location-index-end)) in
    let offsets = c.deref.ensures.value ∙ c.loop-location.invariant ∙ ap (map (λ location. location.verb)) all in
    on_ok (λ positions. positions.items ≡ map (position_in text) c.deref.result.now)
    (λ positions. positions.items ≡ map (λ location. position_in text location.verb) c.args.locations.now) c.positions.result
    (λ positions is. is ∙ ap (map (position_in text)) offsets ∙ map-map (position_in text) _ _)
    c.positions.ensures
