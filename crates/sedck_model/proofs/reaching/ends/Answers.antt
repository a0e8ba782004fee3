use Rattle.sedck_model.proofs.Common.{◌≤◌, [], ◌∷◌, length, None, replicate, All, IfOk-weaker, tree, Spot, beginning, AreEnds, Leads, AreLed, AreWithin}
use Rattle.sedck_model.proofs.EndLemmas.{ends_are, start_is, places_are, if_ok_both}
use Rattle.sedck_model.proofs.reaching.ends.Goals as goal

pub returns-clause-ends : goal.returns-clause-ends
returns-clause-ends c =
    let t = tree c.args.expression.now in
    let text = c.args.text.now in
    let at = c.args.from in
    let start : Spot = record { at = at; groups = replicate 256 None } in
    IfOk-weaker c.follow.result (λ spots. AreLed (Leads t) text (start ∷ []) spots.items) (λ spots. AreEnds text t (beginning text at) spots.items)
    (λ spots. ends_are t text at start spots.items (start_is text at 256)) c.follow.ensures.led

pub returns-clause-places : goal.returns-clause-places
returns-clause-places c =
    let t = tree c.args.expression.now in
    let text = c.args.text.now in
    let at = c.args.from in
    let start : Spot = record { at = at; groups = replicate 256 None } in
    if_ok_both c.follow.result (λ spots. AreLed (Leads t) text (start ∷ []) spots.items) (λ spots. AreWithin text spots.items)
    (λ spots. All (λ s. (at ≤ s.at) × (s.at ≤ length text)) spots.items)
    (λ spots. places_are t text start spots.items c.requires) c.follow.ensures.led c.follow.ensures.within
