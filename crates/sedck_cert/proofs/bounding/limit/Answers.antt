use Rattle.sedck_cert.proofs.Common.{sym, ◌∙◌, IsSteady}
use Rattle.sedck_cert.proofs.BoundingLemmas.{bounds_runs, bounds_everywhere, grows_nowhere}
use Rattle.sedck_cert.proofs.bounding.limit.Goals as goal
use Rattle.sedck_cert.proofs.bounding.limit.Goals.{After-bound_of}

steady : (c : After-bound_of) → IsSteady c.args.script.now c.args.cert.now
steady c =
    let never = grows_nowhere c.args.script.now c.args.cert.now c.first_growth.result c.first_growth.ensures.growth (sym c.is_some.ensures ∙ c.if-is_some.false) in
    record { accepted = c.requires; never_grows = never }

-- the law on steady runs, for these numbers
pub returns-clause-limit : goal.returns-clause-limit
returns-clause-limit c = (
  steady c,
  c.bound_of.ensures,
  bounds_runs c.args.script.now c.first_growth.ensures.formed c.args.cert.now c.bound_of.result (steady c) c.bound_of.ensures,
)

-- and the law on steady wide runs
pub returns-clause-everywhere : goal.returns-clause-everywhere
returns-clause-everywhere c =
    bounds_everywhere c.args.script.now c.first_growth.ensures.formed c.args.cert.now c.bound_of.result (steady c) c.bound_of.ensures
