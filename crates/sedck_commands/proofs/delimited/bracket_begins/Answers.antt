use Rattle.sedck_commands.proofs.BracketLemmas.{begins_plain, begins_negated}
use Rattle.sedck_commands.proofs.delimited.bracket_begins.Goals as goal

pub returns-then-first-eq94-clause-some : goal.returns-then-first-eq94-clause-some
returns-then-first-eq94-clause-some c = begins_negated c.in_ok-first.ensures.cases.0 c.in_ok-begins.ensures.cases.0 c.if-first-eq94.true

pub returns-clause-some : goal.returns-clause-some
returns-clause-some c = begins_plain c.in_ok-first.ensures.cases.0 c.if-first-eq94.false
