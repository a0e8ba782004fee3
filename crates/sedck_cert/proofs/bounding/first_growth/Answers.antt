use Rattle.sedck_cert.proofs.Common.{length, ◌∙◌, sym, ap, arith, length-map, command_of}
use Rattle.sedck_cert.proofs.CheckingLemmas.{leaves_below}
use Rattle.sedck_cert.proofs.bounding.first_growth.Goals as goal

-- no node is left
pub returns-clause-growth : goal.returns-clause-growth
returns-clause-growth c e is_edge =
    let long = sym (length-map c.commands.result.now command_of) ∙ ap length c.commands.ensures.commands in
    c.loop-index.invariant e (is_edge, omega (arith, leaves_below c.args.script.now e is_edge, long))
