use Rattle.sedck_flow.proofs.Common.{◌≡◌, length, get_or, ap, ◌∙◌, arith, number, get_or_default}
use Rattle.sedck_flow.proofs.EdgeListLemmas.{adds}
use Rattle.sedck_flow.proofs.edge_list.place_of.Goals as goal

pub returns-then-number-other-2 : goal.returns-then-number-other-2
returns-then-number-other-2 c =
    let xs = c.args.targets.now in
    let y = c.args.target in
    let at : c.number_of-other.result ≡ number (get_or xs c.loop-at.at y) =
    c.number_of-other.ensures ∙ ap number (get_or_default xs c.loop-at.at _ y c.loop-at-test.true) in
    (omega arith, adds y xs c.loop-at.at c.loop-at.invariant (λ less. omega (arith, at, c.number_of-number.ensures, c.if-number-other-2.true)))

pub returns : goal.returns
returns c =
    let xs = c.args.targets.now in
    (omega arith, adds c.args.target xs (length xs) (λ k less. c.loop-at.invariant k (omega arith)) (λ less. absurd (omega arith)))
