use Rattle.sedck_model.proofs.Common.{◌≤◌, [], ◌∷◌, get_or, length, arith, Contains-get_or, Spot, reached, Closes}
use Rattle.sedck_model.proofs.LedLemmas.{AddsLed-more, AddsLed-next, AddsLed-all, AreWithin-one, AreWithin-at, AreWithin-added}
use Rattle.sedck_model.proofs.GroupLemmas.{closes_next}
use Rattle.sedck_model.proofs.groups.add_closed.Goals as goal

pub loop-end-preserved : goal.loop-end-preserved
loop-end-preserved c =
    let ends = c.args.ends.now in
    let i = c.loop-end.end-index in
    let below = c.loop-end-test.true in
    let start = c.args.start.now in
    let spots = c.loop-end.spots.items in
    let new = c.add.new.spots.items in
    let x = c.closed.result in
    let d : Spot = record { at = 0; groups = [] } in
    record {
      added = λ text between.
          let leads = Closes c.args.group (reached text start) in
          let there = between (get_or ends i d) (Contains-get_or ends i d below) in
          let next = closes_next text start (get_or ends i d) x c.args.group there c.closed.ensures.at c.closed.ensures.groups in
          AddsLed-more leads text c.args.spots.now.items ends spots new i _ below (c.loop-end.invariant.added text between)
          (AddsLed-next leads text _ x spots new next c.in_ok-add.ensures.added);
      within = λ text old last.
          let place : x.at ≤ length text = omega (arith, c.closed.ensures.at, AreWithin-at text ends i d below last) in
          AreWithin-added text spots (x ∷ []) new c.in_ok-add.ensures.added (c.loop-end.invariant.within text old last) (AreWithin-one text x place);
      spent = omega arith;
    }

pub returns-clause-added : goal.returns-clause-added
returns-clause-added c text between =
    AddsLed-all (Closes c.args.group (reached text c.args.start.now)) text c.args.spots.now.items c.args.ends.now c.loop-end.spots.items c.loop-end.end-index
    c.loop-end-test.false (c.loop-end.invariant.added text between)
