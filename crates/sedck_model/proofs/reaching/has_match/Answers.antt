use Rattle.sedck_model.proofs.Common.{◌<◌, length, arith, rules, below_more, false≢true, nat_tests, tree}
use Rattle.sedck_model.proofs.EndLemmas.{BeginsMatch, some_end, begins_part, part_begins}
use Rattle.sedck_model.proofs.reaching.has_match.Goals as goal

pub returns-then-not-is_empty-clause-exact : goal.returns-then-not-is_empty-clause-exact
returns-then-not-is_empty-clause-exact c =
    let t = tree c.args.expression.now in
    let text = c.args.text.now in
    let at = c.loop-from.from in
    let spots = c.in_ok-spots.spots in
    let some = some_end t text at spots.items c.in_ok-spots.ensures.ends in
    let size = spots.ok.0 in
    let test = c.if-not-is_empty.ensures in
    let more : 0 < length spots.items = grind (arith, nat_tests) in
    (λ _. begins_part t text at (some.0 more), λ _. search rules)

pub loop-from-preserved : goal.loop-from-preserved
loop-from-preserved c =
    let t = tree c.args.expression.now in
    let text = c.args.text.now in
    let at = c.loop-from.from in
    let spots = c.in_ok-spots.spots in
    let some = some_end t text at spots.items c.in_ok-spots.ensures.ends in
    let size = spots.ok.0 in
    let test = c.if-not-is_empty.ensures in
    let none : 0 < length spots.items → ⊥ = λ more. grind (arith, nat_tests) in
    record {
      none = below_more (λ k. BeginsMatch t text k → ⊥) at c.loop-from.invariant.none (λ begins. none (some.1 begins));
      spent = omega arith;
    }

pub returns-else-not-is_empty-clause-exact : goal.returns-else-not-is_empty-clause-exact
returns-else-not-is_empty-clause-exact c =
    let t = tree c.args.expression.now in
    let text = c.args.text.now in
    let from = c.loop-from.from in
    let spots = c.in_ok-spots.spots in
    let some = some_end t text from spots.items c.in_ok-spots.ensures.ends in
    let size = spots.ok.0 in
    let test = c.if-not-is_empty.ensures in
    let none : 0 < length spots.items → ⊥ = λ more. grind (arith, nat_tests) in
    let all_none = below_more (λ k. BeginsMatch t text k → ⊥) from c.loop-from.invariant.none (λ begins. none (some.1 begins)) in (
      λ yes. absurd (false≢true yes),
      λ part. let (at, within, begins) = part_begins t text part in absurd (all_none at (omega arith) begins),
    )
