-- Nodes, their order, and their index in it.
use Rattle.sedck_flow.proofs.Common.{◌≡◌, ℕ, ◌<◌, ◌≤◌, arith, nat_tests, Node, IsBefore, node_index, nth_node, node_count}

-- ---- The index follows the order

pub before-index : (m n : Node) → IsBefore m n → node_index m < node_index n
before-index m n h = grind arith

pub index-before : (m n : Node) → node_index m < node_index n → IsBefore m n
index-before m n less = grind arith

-- nodes with one index are one
pub node_same : (m n : Node) → node_index m ≡ node_index n → m ≡ n
node_same m n same = grind arith

-- ---- The node with an index

pub index-nth : (i : ℕ) → node_index (nth_node i) ≡ i
index-nth i = grind (arith, nat_tests)

-- each number is the index of a node
pub node_at : (i : ℕ) → (n : Node) × (node_index n ≡ i)
node_at i = (nth_node i, index-nth i)

-- ---- The nodes of a script are those with an index below their number

pub index_below : (n : Node) (commands : ℕ) → n.at ≤ commands → node_index n < node_count commands
index_below n commands inside = grind arith

pub inside_below : (n : Node) (commands : ℕ) → node_index n < node_count commands → n.at ≤ commands
inside_below n commands below = grind arith
