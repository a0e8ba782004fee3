use Rattle.sedck_search.proofs.distances.settle.Goals as goal

pub returns : goal.returns
returns c = record {
  some = c.relax_all.ensures.some;
  reach = c.args.reached.now;
  closed = c.requires.closed;
  here = c.requires.here;
  settled = c.relax_all.ensures.settled c.loop-to-test.false;
}
