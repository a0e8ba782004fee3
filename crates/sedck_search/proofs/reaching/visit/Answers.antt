use Rattle.sedck_search.proofs.Common.{◌≤◌, ℕ, List, length, sym, subst, inl, inr, Program, Node, Edge, inside, EdgeFilter, Reaches, AreCounts, AreKept, AddsTargets, AreSearchSets, AddsTarget}
use Rattle.sedck_search.proofs.Counts.{kept_reached}
use Rattle.sedck_search.proofs.Paths.{index_below, reaches_from}
use Rattle.sedck_search.proofs.Scans.{scan_next, edge_coming, scan_more}
use Rattle.sedck_search.proofs.Frontiers.{targets_then, targets_node, targets_kept}
use Rattle.sedck_search.proofs.reaching.visit.Goals as goal

pub add_target-first-requires-clause-inside : goal.add_target-first-requires-clause-inside
add_target-first-requires-clause-inside c =
    let scan = scan_next c.in-Some.ensures.steps c.loop-edge.invariant.edges in
    let flow = edge_coming scan in
    index_below c.args.known.graph.script.now c.requires.script c.in-Some.edge.to (inside c.args.known.graph.script.now c.requires.script.targets c.in-Some.edge flow.0).1

-- one target, or what it reaches
one_target : (p : Program) (filter : EdgeFilter) (from to : Node) → Reaches p filter from to → to.at ≤ length p.commands
    → (sets : List (List ℕ)) (counts members frontier members' frontier' : List ℕ) (first first' : ℕ) → AreKept p filter sets → AreCounts p filter counts
    → AreSearchSets members frontier → AreSearchSets members' frontier' → AddsTarget sets counts to members frontier members' frontier' first first'
    → AddsTargets p filter from members frontier members' frontier' first first'
one_target p filter from to r inside sets counts members frontier members' frontier' first first' kept are before after (inl node) =
    targets_node p filter from to r members frontier members' frontier' first first' before node
one_target p filter from to r inside sets counts members frontier members' frontier' first first' kept are before after (inr k) =
    let reached = kept_reached p filter sets counts k.set to kept are inside k.is_set k.is_kept in
    subst (λ f. AddsTargets p filter from members frontier members' f first first') (sym k.same)
    (subst (λ i. AddsTargets p filter from members frontier members' frontier first i) (sym k.same_first)
    (targets_kept p filter from to r members frontier members' k.set first before.is_set after.is_set k.union reached.0 reached.1))

-- the target is in the set now
pub loop-edge-preserved-then-follows : goal.loop-edge-preserved-then-follows
loop-edge-preserved-then-follows c =
    let p = c.args.known.graph.script.now in
    let node : Node = c.args.node in
    let e : Edge = c.in-Some.edge in
    let scan = scan_next c.in-Some.ensures.steps c.loop-edge.invariant.edges in
    let flow = edge_coming scan in
    let one = one_target p c.args.known.graph.filter node e.to (reaches_from p c.args.known.graph.filter node e flow (c.follows.ensures.0 c.if-follows.true))
    (inside p c.requires.script.targets e flow.0).1 c.args.known.kept.now.sets.items c.args.known.counts.now c.loop-edge.reached c.loop-edge.frontier
    c.add_target-first.new.reached c.add_target-first.new.frontier c.loop-edge.first c.add_target-first.result c.requires.kept c.requires.counts
    c.loop-edge.invariant.sets c.add_target-first.ensures.sets c.add_target-first.ensures.target in
    record {
      edges = scan_more scan
          (λ f held followed. one.kept f.to (held followed)) (λ _. c.add_target-first.ensures.added);
      sets = c.add_target-first.ensures.sets;
      targets = targets_then p c.args.known.graph.filter node c.args.reached.now c.args.frontier.now c.loop-edge.reached c.loop-edge.frontier
          c.add_target-first.new.reached c.add_target-first.new.frontier c.args.first c.loop-edge.first c.add_target-first.result
          c.loop-edge.invariant.targets one;
    }
