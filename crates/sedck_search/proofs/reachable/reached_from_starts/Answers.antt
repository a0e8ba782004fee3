use Rattle.sedck_search.proofs.Common.{◌≡◌, ◌≤◌, ◌<◌, ◌+◌, ◌⊎◌, ℕ, List, [], ◌∷◌, length, length-append, Bool, true, false, refl, sym, ap, ◌∙◌, inl, inr, arith, Some, slice_get, true≢false, length-map, Program, command_of, start, node_index, node_count, Node, Every, IsReachable, MarkReachable, IsEmpty, IsClosed, IsIn, AddsReached}
use Rattle.sedck_search.specs.Private.NodeSet.{has}
use Rattle.sedck_search.proofs.Paths.{closed_reaches, all_followed}
use Rattle.sedck_search.proofs.Scans.{place_in, entries_push}
use Rattle.sedck_search.proofs.reachable.reached_from_starts.Goals as goal

-- a node is marked exactly where it is reached
module _ (p : Program) (none half members : List ℕ) (marks : List Bool) (empty : IsEmpty none) (closed : IsClosed p Every members)
    (before : AddsReached p Every (start false) none half) (after : AddsReached p Every (start true) half members)
    (long : length marks ≡ node_count (length p.commands))
    (entries : (i : ℕ) → i < length marks → slice_get marks i ≡ Some (has members i)) where
  -- both starts are in the set
  starts : (last : Bool) → IsIn members (start last)
  starts false = after.kept (start false) before.node
  starts true = after.node

  marked : MarkReachable p marks
  marked = record { long = long; each = λ n inside. by_bit n inside (has members (node_index n)) refl }
    where
      by_bit : (n : Node) → n.at ≤ length p.commands → (b : Bool) → has members (node_index n) ≡ b
          → (IsReachable p n × (slice_get marks (node_index n) ≡ Some true)) ⊎ ((¬ IsReachable p n) × (slice_get marks (node_index n) ≡ Some false))
      by_bit n inside true is = inl (
        elim (after.reached n is) [
          | inl old ↦ elim (before.reached n old) [
            | inl none ↦ absurd (true≢false (sym none ∙ empty (node_index n)))
            | inr reaches ↦ (false, reaches.0, reaches.1)
          ]
          | inr reaches ↦ (true, reaches.0, reaches.1)
        ],
        entries (node_index n) (place_in p marks long n inside) ∙ ap Some is,
      )
      by_bit n inside false is = inr (
        (λ reachable. true≢false
            (sym (closed_reaches p Every members closed reachable.1 (start reachable.0) n reachable.2 (all_followed reachable.1) (starts reachable.0)) ∙ is)),
        entries (node_index n) (place_in p marks long n inside) ∙ ap Some is,
      )

pub returns : goal.returns
returns c =
    let count : length c.commands.result.now ≡ length c.args.graph.script.now.commands = sym (length-map c.commands.result.now command_of)
    ∙ ap length c.commands.ensures.commands in
    let inv = c.loop-index.invariant in
    let end : c.loop-index.index ≡ node_count (length c.args.graph.script.now.commands) =
    omega (arith, count, c.loop-index-test.false, c.loop-index.auto.index-end) in
    marked c.args.graph.script.now c.new-reached.result c.add_reached.new.reached c.add_reached-2.new.reached c.loop-index.marks.items c.new-reached.ensures.nodes c.add_reached-2.ensures.closed
    (rw c.start.ensures at c.add_reached.ensures.grown) (rw c.start-2.ensures at c.add_reached-2.ensures.grown) (inv.long ∙ end) (λ i below. inv.entries i (omega (arith, below, inv.long)))

-- one mark more
pub loop-index-preserved : goal.loop-index-preserved
loop-index-preserved c =
    let inv = c.loop-index.invariant in
    let members = c.add_reached-2.new.reached in
    let items = c.in_ok-push.ensures.items in
    record {
      long = ap length items ∙ length-append c.loop-index.marks.items (c.has.result ∷ []) ∙ ap (λ n. n + 1) inv.long;
      entries = λ i below. ap (λ xs. slice_get xs i) items
          ∙ entries_push c.loop-index.marks.items c.has.result (has members) (λ k less. inv.entries k (omega (arith, less, inv.long)))
          (c.has.ensures.value ∙ ap (has members) (sym inv.long)) i (omega (arith, below, inv.long));
    }
