use Rattle.sedck_flow.proofs.NodeLemmas.{before-index, index-before, node_same, index-nth, index_below, inside_below}
use Rattle.sedck_flow.proofs.laws.nodes_are_numbered.Goals as goal

pub returns : goal.returns
returns c = record {
  in_order = λ m n. (before-index m n, index-before m n);
  one_node = node_same;
  each_index = index-nth;
  inside = λ n commands. (index_below n commands, inside_below n commands);
}
