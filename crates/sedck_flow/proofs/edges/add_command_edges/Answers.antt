use Rattle.sedck_flow.proofs.Common.{arith, command_of, Adds}
use Rattle.sedck_flow.proofs.EdgesLemmas.{Applied, adds_skip}
use Rattle.sedck_flow.proofs.edges.add_command_edges.Goals.{then-may_apply, else-may_apply}
use Rattle.sedck_flow.proofs.edges.add_command_edges.Goals as goal

pub returns-then-may_skip-clause-edges : goal.returns-then-may_skip-clause-edges
returns-then-may_skip-clause-edges c =
    let command = command_of c.args.command.now in
    let applied : Adds (Applied c.args.script.now command c.args.from) c.args.list.now c.if-may_apply.list = elim c.if-may_apply.branch [
      | then-may_apply w ↦ rw w.list-is (grind (arith, w.add_verb_edges.ensures.edges))
      | else-may_apply w ↦ rw w.list-is (grind arith)
    ] in
    adds_skip c.args.script.now command c.args.from _ _ _ (c.may_skip.ensures.0 c.if-may_skip.true) applied (rw c.node_past.ensures at c.add.ensures.edges)
