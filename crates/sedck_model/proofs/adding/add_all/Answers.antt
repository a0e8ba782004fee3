use Rattle.sedck_model.proofs.Common.{arith, subst, take_all, Adds}
use Rattle.sedck_model.proofs.ListLemmas.{Adds-more}
use Rattle.sedck_model.proofs.adding.add_all.Goals as goal

pub loop-spot-preserved : goal.loop-spot-preserved
loop-spot-preserved c = record {
  added = Adds-more c.args.spots.now.items c.args.others.now c.loop-spot.spots.items c.add.new.spots.items c.loop-spot.spot-index _ c.loop-spot-test.true
      c.loop-spot.invariant.added c.in_ok-add.ensures.added;
  spent = omega arith;
}

pub returns-clause-added : goal.returns-clause-added
returns-clause-added c =
    subst (λ xs. Adds c.args.spots.now.items xs c.loop-spot.spots.items)
    (take_all c.loop-spot.spot-index c.args.others.now c.loop-spot-test.false) c.loop-spot.invariant.added
