use Rattle.sedck_search.proofs.Common.{◌≡◌, ◌++◌, [], ◌∷◌, suc, List, length, sym, ap, ap₂, ◌∙◌, subst, subst₂, append_assoc, append-nil, node_index, FlowFrom, ListsEdges, Edge, ListsNodes}
use Rattle.sedck_search.proofs.EdgeTables.{one_node_more}
use Rattle.sedck_search.proofs.Scans.{scan_next, scan_more}
use Rattle.sedck_search.proofs.edge_table.EdgeTable.add.Goals as goal

pub loop-edge-preserved : goal.loop-edge-preserved
loop-edge-preserved c =
    let before : List Edge = c.args.self.now.edges.items in
    record {
      edges = scan_more (scan_next c.in-Some.ensures.steps c.loop-edge.invariant.edges) (λ f h. h) tt;
      added = c.in_ok-push.ensures.items ∙ ap (λ l. l ++ c.in-Some.edge ∷ []) c.loop-edge.invariant.added ∙ append_assoc before c.loop-edge.yielded (c.in-Some.edge ∷ []);
      starts = c.loop-edge.invariant.starts;
    }

pub returns : goal.returns
returns c =
    let p = c.args.script.now in
    let n = c.args.node in
    let inv = c.loop-edge.invariant in
    let more : List Edge = c.loop-edge.yielded in
    let listed : ListsEdges more (FlowFrom p n) =
    subst (λ l. ListsEdges l (FlowFrom p n)) (ap (λ l. more ++ l) c.in-None.ensures.steps.0 ∙ append-nil more) inv.edges.listed in
    let end : length c.as_slice-end.result.now ≡ length (c.args.self.now.edges.items ++ more) = ap length (c.as_slice-end.ensures.value ∙ inv.added) in
    subst₂ (λ s e. ListsNodes p s e (suc (node_index n)))
    (sym (c.in_ok-push-2.ensures.items ∙ ap₂ (λ s k. s ++ k ∷ []) (ap (λ v. v.items) inv.starts) end)) (sym inv.added)
    (one_node_more p c.args.self.now.starts.items c.args.self.now.edges.items more n c.requires.listed listed)
