use Rattle.sedck_flow.proofs.Common.{ap, length, arith, length-map, command_of}
use Rattle.sedck_flow.proofs.EdgesLemmas.{at_command, at_end, has_target, has_formed, has_replacement, read_command, read_none}
use Rattle.sedck_flow.proofs.edges.edges_of.Goals.{in-Some, in-None}
use Rattle.sedck_flow.proofs.edges.edges_of.Goals as goal

pub add_command_edges-requires-clause-target : goal.add_command_edges-requires-clause-target
add_command_edges-requires-clause-target c =
    let read = c.in-Some.ensures.lookup in
    has_target c.args.script.now c.commands.ensures.script c.args.node.at (command_of c.in-Some.command.now)
    (read_command c.args.script.now c.commands.result.now c.from.result c.args.node.at c.in-Some.command.now c.commands.ensures.commands
    c.from.ensures read.3.0 read.1)

pub add_command_edges-requires-clause-formed : goal.add_command_edges-requires-clause-formed
add_command_edges-requires-clause-formed c =
    let read = c.in-Some.ensures.lookup in
    has_formed c.args.script.now c.commands.ensures.script c.args.node.at (command_of c.in-Some.command.now)
    (read_command c.args.script.now c.commands.result.now c.from.result c.args.node.at c.in-Some.command.now c.commands.ensures.commands
    c.from.ensures read.3.0 read.1)

pub add_command_edges-requires-clause-replacement : goal.add_command_edges-requires-clause-replacement
add_command_edges-requires-clause-replacement c =
    let read = c.in-Some.ensures.lookup in
    has_replacement c.args.script.now c.commands.ensures.script c.args.node.at (command_of c.in-Some.command.now)
    (read_command c.args.script.now c.commands.result.now c.from.result c.args.node.at c.in-Some.command.now c.commands.ensures.commands
    c.from.ensures read.3.0 read.1)

pub returns-clause-edges : goal.returns-clause-edges
returns-clause-edges c =
    elim c.match-get.branch [
      | in-Some w ↦
          let read = w.in-Some.ensures.lookup in
          rw w.list-is
          (at_command c.args.script.now c.args.node (command_of w.in-Some.command.now) w.add_command_edges.new.list
          (read_command c.args.script.now c.commands.result.now c.from.result c.args.node.at w.in-Some.command.now c.commands.ensures.commands
          c.from.ensures read.3.0 read.1) (rw c.new-list.ensures at w.add_command_edges.ensures.edges))
      | in-None w ↦
          let read = w.in-None.ensures.lookup in
          rw w.list-is
          (at_end c.args.script.now c.args.node w.add_line.new.self
          (read_none c.args.script.now c.commands.result.now c.from.result c.args.node.at c.commands.ensures.commands c.from.ensures read.3)
          (omega (arith, read.3, ap length c.commands.ensures.commands, length-map c.commands.result.now command_of))
          (rw (w.start.ensures, c.new-list.ensures) at w.add_line.ensures.edges))
    ]
