-- An edge between nodes that know the last line, without what they say of it.
use Rattle.sedck_flow.proofs.Common.{◌≡◌, Bool, true, false, length, ap, inl, inr, Option, Some, None, MatchOption, slice_get, if◌then◌else◌, Address, Two, Verb, Block, Change, Delete, DeleteFirstLine, Next, NextAppend, Quit, Substitute, Test, Command, Program, start, next, with_flag, HasKind, ReadsLine, VerbEdge, node_past, CommandEdge, Flow, Node, Edge, Kind, Consume, moved_to}
use Rattle.sedck_flow.specs.VersionOne.{plain_node, plain_edge, start_one, moved_one, next_one, flagged_one, VerbEdgeOne, node_past_one, CommandEdgeOne, FlowOne}

reads_line : (n : Node) (kind : Kind) (to : Node) → ReadsLine n start kind to → (kind ≡ Consume) × (plain_node to ≡ start_one)
reads_line n kind to (_, is, last, e) = (is, ap plain_node e)

tests : (target : _) (n to : Node) (flag : Bool) → to ≡ (if flag then with_flag (moved_to n target) false else next n)
    → plain_node to ≡ (if flag then flagged_one (moved_one (plain_node n) target) false else next_one (plain_node n))
tests target n to true e = ap plain_node e
tests target n to false e = ap plain_node e

verb_plain : (p : Program) (a : Address) (v : Verb) (n : Node) (kind : Kind) (to : Node) → VerbEdge p a v n kind to
    → VerbEdgeOne (HasKind p) a v (plain_node n) kind (plain_node to)
verb_plain p (Two first end) (Change text) n kind to (inl h) = inl (reads_line n kind to h)
verb_plain p (Two first end) (Change text) n kind to (inr (is, e)) = inr (is, ap plain_node e)
verb_plain p _ (Change text) n kind to h = reads_line n kind to h
verb_plain p a Delete n kind to h = reads_line n kind to h
verb_plain p a DeleteFirstLine n kind to (inl h) = inl (reads_line n kind to h)
verb_plain p a DeleteFirstLine n kind to (inr (is, flag, kept, e)) = inr (is, flag, kept, ap plain_node e)
verb_plain p a Next n kind to (flag, kept, (_, is, last, e)) = (is, flag, kept, ap plain_node e)
verb_plain p a NextAppend n kind to (flag, kept, (_, is, last, e)) = (is, flag, kept, ap plain_node e)
verb_plain p a Quit n kind to h = h
verb_plain p a (Substitute s) n kind to (inl (is, e)) = inl (is, ap plain_node e)
verb_plain p a (Substitute s) n kind to (inr (has, e)) = inr (has, ap plain_node e)
verb_plain p a (Test target) n kind to (is, e) = (is, tests target n to n.flag e)
verb_plain p a _ n kind to h = (h.0, ap plain_node h.1)

past_plain : (v : Verb) (n to : Node) → to ≡ node_past v n → plain_node to ≡ node_past_one v (plain_node n)
past_plain (Block behind) n to e = ap plain_node e
past_plain _ n to e = ap plain_node e

command_plain : (p : Program) (c : Command) (n : Node) (kind : Kind) (to : Node) → CommandEdge p c n kind to
    → CommandEdgeOne (HasKind p) c (plain_node n) kind (plain_node to)
command_plain p c n kind to (inl (may, is, e)) = inl (may.0, is, past_plain c.verb n to e)
command_plain p c n kind to (inr (_, h)) = inr (verb_plain p c.address c.verb n kind to h)

plain_at : (p : Program) (o : Option Command) (n : Node) (kind : Kind) (to : Node)
    → MatchOption o ((n.at ≡ length p.commands) × ReadsLine n start kind to) (λ c. CommandEdge p c n kind to)
    → MatchOption o ((n.at ≡ length p.commands) × (kind ≡ Consume) × (plain_node to ≡ start_one)) (λ c. CommandEdgeOne (HasKind p) c (plain_node n) kind (plain_node to))
plain_at p None n kind to (place, h) = let read = reads_line n kind to h in (place, read.0, read.1)
plain_at p (Some c) n kind to h = command_plain p c n kind to h

pub plain : (p : Program) (e : Edge) → Flow p e → FlowOne (HasKind p) p (plain_edge e)
plain p e h = plain_at p (slice_get p.commands e.from.at) e.from e.kind e.to h
