use Rattle.sedck_search.proofs.Common.{◌≡◌, ◌<◌, ◌≤◌, ℕ, suc, length, get_or, refl, sym, ◌∙◌, subst, arith, set, node_same, ArePathLengths}
use Rattle.sedck_search.proofs.Scans.{entry_is, entry_of}
use Rattle.sedck_search.proofs.DistanceLemmas.{distances_set}
use Rattle.sedck_search.proofs.distances.relax_at.Goals as goal

pub returns-then-distance-distances-clause-settled : goal.returns-then-distance-distances-clause-settled
returns-then-distance-distances-clause-settled c = λ _ n _ is e followed leaves before after has to.
    let at : before ≤ c.relaxed-distance.result = omega (arith, c.if-distance-distances.true, entry_of c.args.distances.now n c.args.index before (sym is) has) in
    let node : n ≡ c.nth.result = node_same n c.nth.result (is ∙ sym c.nth.ensures) in
    omega (arith, at, c.relaxed-distance.ensures.least e followed (leaves ∙ node) after to)

-- the node's distance is shorter now
pub returns-clause-some : goal.returns-clause-some
returns-clause-some c =
    let distances = c.args.distances.now in
    let old : ℕ = get_or distances c.args.index 0 in
    let below : c.args.index < length distances = omega (arith, c.requires.some.long, c.requires.inside) in
    let was = entry_is distances c.nth.result c.args.index old (sym c.nth.ensures) below refl in
    let small : c.relaxed-distance.result < 65535 = omega (arith, c.if-distance-distances.false, c.requires.some.small c.nth.result old was) in
    let goes = c.relaxed-distance.ensures.some small in
    subst (λ v. ArePathLengths c.args.graph.script.now c.args.graph.filter c.args._to (set distances c.args.index v)) (sym goes.1)
    (subst (λ i. ArePathLengths c.args.graph.script.now c.args.graph.filter c.args._to (set distances i (suc goes.0))) c.nth.ensures
    (distances_set c.args.graph.script.now c.args.graph.filter c.args._to distances c.requires.some c.nth.result goes.0 old was (omega (arith, c.if-distance-distances.false, goes.1)) goes.2))
