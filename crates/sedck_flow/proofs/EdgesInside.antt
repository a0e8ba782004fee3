-- Edges lead to commands or to the script's end.
use Rattle.sedck_flow.proofs.Common.{◌≡◌, ℕ, zero, suc, ◌<◌, ◌≤◌, List, [], ◌∷◌, length, refl, sym, ap, inl, inr, arith, Option, Some, None, MatchOption, slice_get, All-contains, get_or_from_slice_get, slice_get_within, none-some, IsTargetWithin, AreTargetsWithin, Address, Two, Verb, Block, Change, Quit, Command, Program, start, ReadsLine, VerbEdge, node_past, CommandEdge, Flow, Node, Edge, Kind}

-- where there is no command, the place isn't below the length
pub slice_get-none : {A : Type 0} (xs : List A) (i : ℕ) → slice_get xs i ≡ None → length xs ≤ i
slice_get-none [] i e = omega arith
slice_get-none (y ∷ xs) zero e = absurd (none-some _ (sym e))
slice_get-none (y ∷ xs) (suc i) e = omega (arith, slice_get-none xs i e)

module _ (p : Program) (n : ℕ) where
  verb_inside : (a : Address) (v : Verb) → IsTargetWithin n v → (from : Node) (kind : Kind) (to : Node) → from.at < n → VerbEdge p a v from kind to → to.at ≤ n
  verb_inside a Quit inside from kind to below h = absurd h
  verb_inside (Two first end) (Change text) inside from kind to below h = grind arith
  verb_inside a _ inside from kind to below h = grind arith

  past_inside : (v : Verb) → IsTargetWithin n v → (from to : Node) → from.at < n → to ≡ node_past v from → to.at ≤ n
  past_inside (Block behind) inside from to below e = omega (arith, ap (λ (x : Node). x.at) e)
  past_inside _ inside from to below e = omega (arith, ap (λ (x : Node). x.at) e)

command_inside : (p : Program) (c : Command) (n : ℕ) → IsTargetWithin n c.verb → (from : Node) (kind : Kind) (to : Node) → from.at < n
    → CommandEdge p c from kind to → to.at ≤ n
command_inside p c n inside from kind to below (inl (_, _, e)) = past_inside p n c.verb inside from to below e
command_inside p c n inside from kind to below (inr (_, h)) = verb_inside p n c.address c.verb inside from kind to below h

edge_inside : (p : Program) (from : Node) (kind : Kind) (to : Node) (o : Option Command) → slice_get p.commands from.at ≡ o
    → ((c : Command) → o ≡ Some c → IsTargetWithin (length p.commands) c.verb)
    → MatchOption o ((from.at ≡ length p.commands) × ReadsLine from start kind to) (λ c. CommandEdge p c from kind to)
    → (from.at ≤ length p.commands) × (to.at ≤ length p.commands)
edge_inside p from kind to None e inside (place, (_, _, _, is)) = (omega arith, omega (arith, ap (λ (x : Node). x.at) is))
edge_inside p from kind to (Some c) e inside h =
    let below : from.at < length p.commands = slice_get_within p.commands from.at c e in
    (omega arith, command_inside p c (length p.commands) (inside c refl) from kind to below h)

-- the target of the command at a place
pub target_at : (p : Program) → AreTargetsWithin p → (at : ℕ) (c : Command) → slice_get p.commands at ≡ Some c → IsTargetWithin (length p.commands) c.verb
target_at p targets at c e =
    All-contains (λ (d : Command). IsTargetWithin (length p.commands) d.verb) p.commands c targets
    (at, slice_get_within p.commands at c e, get_or_from_slice_get p.commands at c c e)

pub inside : (p : Program) → AreTargetsWithin p → (e : Edge) → Flow p e → (e.from.at ≤ length p.commands) × (e.to.at ≤ length p.commands)
inside p targets e h = edge_inside p e.from e.kind e.to (slice_get p.commands e.from.at) refl (target_at p targets e.from.at) h
