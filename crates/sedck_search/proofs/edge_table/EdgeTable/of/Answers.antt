use Rattle.sedck_search.proofs.Common.{◌≡◌, ◌+◌, suc, ◌∙◌, ap, sym, length, subst, arith, length-map, command_of, node_index, node_count, inside_below, ListsNodes}
use Rattle.sedck_search.proofs.edge_table.EdgeTable.of.Goals as goal

pub add-requires-clause-listed : goal.add-requires-clause-listed
add-requires-clause-listed c =
    subst (ListsNodes c.args.script.now c.loop-index.table.starts.items c.loop-index.table.edges.items) (sym c.nth.ensures) c.loop-index.invariant

pub add-requires-clause-inside : goal.add-requires-clause-inside
add-requires-clause-inside c =
    let count : length c.commands.result.now ≡ length c.args.script.now.commands = sym (length-map c.commands.result.now command_of)
    ∙ ap length c.commands.ensures.commands in
    inside_below c.nth.result (length c.args.script.now.commands) (omega (arith, count, c.nth.ensures, c.node_count-count.ensures, c.loop-index-test.true))

pub loop-index-preserved : goal.loop-index-preserved
loop-index-preserved c =
    let next : suc (node_index c.nth.result) ≡ c.loop-index.index + 1 = omega (arith, c.nth.ensures) in
    subst (ListsNodes c.args.script.now c.add.new.self.starts.items c.add.new.self.edges.items) next c.in_ok-add.ensures

pub returns-clause-table : goal.returns-clause-table
returns-clause-table c =
    let count : length c.commands.result.now ≡ length c.args.script.now.commands = sym (length-map c.commands.result.now command_of)
    ∙ ap length c.commands.ensures.commands in
    let end : c.loop-index.index ≡ node_count (length c.args.script.now.commands) =
    omega (arith, count, c.node_count-count.ensures, c.loop-index-test.false, c.loop-index.auto.index-end) in
    subst (ListsNodes c.args.script.now c.loop-index.table.starts.items c.loop-index.table.edges.items) end c.loop-index.invariant
