use Rattle.sedck_cert.proofs.Common.{IsFalling}
use Rattle.sedck_cert.proofs.FallingLemmas.{bounds_runs, bounds_everywhere}
use Rattle.sedck_cert.proofs.falling.limit_by_lines.Goals as goal
use Rattle.sedck_cert.proofs.falling.limit_by_lines.Goals.{After-bound_of}

falling : (c : After-bound_of) → IsFalling c.args.script.now c.args.cert.now
falling c = record { accepted = c.requires; falls = c.lowers_first_ranks.ensures.falls.0 (let yes = c.if-not-lowers_first_ranks.false in cc) }

-- the law on falling runs, for these numbers
pub returns-clause-limit : goal.returns-clause-limit
returns-clause-limit c = (
  falling c,
  c.bound_of.ensures,
  bounds_runs c.args.script.now c.lowers_first_ranks.ensures.formed c.args.cert.now c.bound_of.result (falling c) c.bound_of.ensures,
)

-- and the law on falling wide runs
pub returns-clause-everywhere : goal.returns-clause-everywhere
returns-clause-everywhere c =
    bounds_everywhere c.args.script.now c.lowers_first_ranks.ensures.formed c.args.cert.now c.bound_of.result (falling c) c.bound_of.ensures
