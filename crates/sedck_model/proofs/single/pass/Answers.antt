use Rattle.sedck_model.proofs.Common.{[], ◌∷◌, arith, tree, Passes}
use Rattle.sedck_model.proofs.LedLemmas.{AddsLed-more, AddsLed-all, AddsLed-next, AddsLed-stay, AreLed-from_adds, AreWithin-at, AreWithin-one, AreWithin-added}
use Rattle.sedck_model.proofs.single.pass.Goals as goal
use Rattle.sedck_model.proofs.single.pass.Goals.{in-Some+in_ok-add, in_default}

pub next-requires : goal.next-requires
next-requires c = AreWithin-at c.args.text.now c.args.from.now c.loop-spot.spot-index _ c.loop-spot-test.true c.requires

pub loop-spot-preserved : goal.loop-spot-preserved
loop-spot-preserved c =
    let leads = Passes (tree c.args.expression.now) in
    let text = c.args.text.now in
    let from = c.args.from.now in
    let spots = c.loop-spot.spots.items in
    let i = c.loop-spot.spot-index in
    let below = c.loop-spot-test.true in
    let old = c.loop-spot.invariant.led in
    elim c.match-next.branch [
      | in-Some+in_ok-add w ↦
          let new = w.add.new.spots.items in
          let one = AddsLed-next leads text _ w.in-Some.after spots new w.in-Some.ensures w.in_ok-add.ensures.added in
          rw w.spots-is (rw w.budget-is (record {
            led = AddsLed-more leads text [] from spots new i _ below old one;
            within =
                AreWithin-added text spots (w.in-Some.after ∷ []) new w.in_ok-add.ensures.added c.loop-spot.invariant.within
                (AreWithin-one text w.in-Some.after w.in-Some.ensures.0);
            spent = omega arith;
          }))
      | in_default w ↦ rw w.spots-is (rw w.budget-is (record {
        led = AddsLed-more leads text [] from spots spots i _ below old (AddsLed-stay leads text _ spots w.in_default.ensures);
        within = c.loop-spot.invariant.within;
        spent = omega arith;
      }))
    ]

pub returns-clause-led : goal.returns-clause-led
returns-clause-led c =
    let leads = Passes (tree c.args.expression.now) in
    AreLed-from_adds leads c.args.text.now c.args.from.now c.loop-spot.spots.items
    (AddsLed-all leads c.args.text.now [] c.args.from.now c.loop-spot.spots.items c.loop-spot.spot-index c.loop-spot-test.false c.loop-spot.invariant.led)
