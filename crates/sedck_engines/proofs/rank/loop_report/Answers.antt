use Rattle.sedck_engines.proofs.Common.{◌≡◌, ◌<◌, ◌+◌, ℕ, suc, List, ◌∷◌, ◌++◌, length, get_or, sym, ap, ap₂, ◌∙◌, append_assoc, arith, drop-cons, drop-length, drop, codes, node_words, kind_text, Node, line, walk_lines}
use Rattle.sedck_flow.specs.declared.graph.Kind.{Kind}
use Rattle.sedck_engines.proofs.rank.loop_report.Goals as goal

-- the lines from an edge on
edge_on : (nodes : List Node) (kinds : List Kind) (i : ℕ) (node : Node) (kind : Kind) → i < length nodes → i < length kinds
    → node ≡ get_or nodes i node → kind ≡ get_or kinds i kind
    → walk_lines (drop i nodes) (drop i kinds) ≡ line (node_words node ++ codes " " ++ kind_text kind) ++ walk_lines (drop (i + 1) nodes) (drop (i + 1) kinds)
edge_on nodes kinds i node kind below_nodes below_kinds is_node is_kind =
    let next : i + 1 ≡ suc i = omega arith in
    ap₂ walk_lines (drop-cons nodes i node below_nodes ∙ ap (λ n. n ∷ drop (suc i) nodes) (sym is_node))
    (drop-cons kinds i kind below_kinds ∙ ap (λ k. k ∷ drop (suc i) kinds) (sym is_kind))
    ∙ ap (λ k. line (node_words node ++ codes " " ++ kind_text kind) ++ walk_lines (drop k nodes) (drop k kinds)) (sym next)

-- after the last edge the last node is left
node_left : (nodes : List Node) (kinds : List Kind) (i : ℕ) (node : Node) → i ≡ length kinds → length nodes ≡ suc (length kinds) → node ≡ get_or nodes i node
    → walk_lines (drop i nodes) (drop i kinds) ≡ line (node_words node)
node_left nodes kinds i node is long is_node =
    ap₂ walk_lines (drop-cons nodes i node (omega (arith, is, long)) ∙ ap (λ n. n ∷ drop (suc i) nodes) (sym is_node))
    (ap (λ k. drop k kinds) is ∙ drop-length kinds)

pub loop-index-init : goal.loop-index-init
loop-index-init c =
    ap (λ t. t ++ walk_lines c.args.walk.now.nodes.items c.args.walk.now.kinds.items)
    (c.in_ok-add_line.ensures ∙ ap (λ t. t ++ line c.words_of.result.now) c.new-report.ensures.items ∙ ap line c.words_of.ensures)

pub loop-index-preserved : goal.loop-index-preserved
loop-index-preserved c =
    let nodes : List Node = c.args.walk.now.nodes.items in
    let kinds : List Kind = c.args.walk.now.kinds.items in
    let i : ℕ = c.loop-index.index in
    let node : Node = c.index.result.now in
    let kind : Kind = c.index-in-loop-index.result.now in
    let below : i < length kinds = omega (arith, c.loop-index-test.true, c.len-index-end.ensures) in
    let words = c.as_bytes.ensures.value ∙ c.in_ok-words.ensures.ok ∙ sym (append_assoc (node_words node) (codes " ") (kind_text kind)) in
    ap (λ t. t ++ walk_lines (drop (i + 1) nodes) (drop (i + 1) kinds)) (c.in_ok-add_line-2.ensures ∙ ap (λ w. c.loop-index.report.items ++ line w) words)
    ∙ append_assoc c.loop-index.report.items (line (node_words node ++ codes " " ++ kind_text kind)) (walk_lines (drop (i + 1) nodes) (drop (i + 1) kinds))
    ∙ ap (λ t. c.loop-index.report.items ++ t)
    (sym (edge_on nodes kinds i node kind (omega (arith, below, c.requires)) below c.index.ensures c.index-in-loop-index.ensures))
    ∙ c.loop-index.invariant

pub returns : goal.returns
returns c =
    let nodes : List Node = c.args.walk.now.nodes.items in
    let kinds : List Kind = c.args.walk.now.kinds.items in
    let node : Node = c.index-2.result.now in
    let end : c.loop-index.index ≡ length kinds = omega (arith, c.loop-index-test.false, c.loop-index.auto.index-end, c.len-index-end.ensures) in
    let at : c.len.result ≡ c.loop-index.index = omega (arith, end, c.len.ensures) in
    c.in_ok-add_line-3.ensures ∙ ap (λ w. c.loop-index.report.items ++ line w) (c.as_bytes-2.ensures.value ∙ c.in_ok-words-2.ensures.ok)
    ∙ ap (λ t. c.loop-index.report.items ++ t)
    (sym (node_left nodes kinds c.loop-index.index node end c.requires (c.index-2.ensures ∙ ap (λ k. get_or nodes k node) at)))
    ∙ c.loop-index.invariant
