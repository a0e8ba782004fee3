-- The edges that are found for a node are those that leave it.
use Rattle.sedck_flow.proofs.Common.{◌≡◌, ℕ, zero, suc, ◌<◌, ◌≤◌, List, [], ◌∷◌, map, length, get_or, drop, Contains, refl, sym, ap, ◌∙◌, subst, inl, inr, arith, Option, Some, None, MatchOption, option_map, slice_get, get_or_from_slice_get, slice_get-map, slice_get_within, length-map, All-contains, IsTargetWithin, AreWellFormed, Pattern, Previous, Expression, Verb, Branch, Test, Block, Substitute, Command, Program, expressions, command_of, Tree, IsWellFormed, StandsFor, IsFormed, start, ReadsLine, VerbEdge, node_past, CommandEdge, Flow, ListsEdges, edge_to, Adds, AddsEdge, Node, Edge, Kind, Keep, slice_get_read, slice_get_past, IsReplacement, IsScript, HasFormed, MayApplyAt, MaySkipAt, FlowFrom}
use Rattle.sedck_script.specs.declared.script.Command.{Command as Coded}
use Rattle.sedck_flow.proofs.EdgeListLemmas.{lists_edges, adds_then, adds_same}
use Rattle.sedck_flow.proofs.EdgesInside.{target_at}
use Rattle.sedck_flow.proofs.StepsFollowEdges.{IsKnown, known_at}

-- ---- What is still to come

pub drop_next : {A : Type 0} (xs : List A) (i : ℕ) (x : A) → slice_get xs i ≡ Some x → drop i xs ≡ x ∷ drop (suc i) xs
drop_next [] i x e = absurd (let none : None ≡ Some x = e in cc)
drop_next (y ∷ xs) zero x e = let is : y ≡ x = cc in ap (λ z. z ∷ xs) is
drop_next (y ∷ xs) (suc i) x e = drop_next xs i x e

-- ---- A command

-- the edges of its verb where it may be applied
abbrev pub Applied : Program → Command → Node → Kind → Node → Type 0
Applied p c n kind to = MayApplyAt c n × VerbEdge p c.address c.verb n kind to

-- and one by which it may be passed
pub adds_skip : (p : Program) (c : Command) (n : Node) (before between after : List (Node × Kind)) → MaySkipAt c n
    → Adds (Applied p c n) before between → AddsEdge Keep (node_past c.verb n) between after → Adds (CommandEdge p c n) before after
adds_skip p c n before between after may applied skipped =
    adds_same _ (CommandEdge p c n) before after
    (λ k t. (elim [ inl h ↦ inr h | inr h ↦ inl (may, h.0, h.1) ], elim [ inl h ↦ inr (h.1, h.2) | inr h ↦ inl h ]))
    (adds_then (Applied p c n) _ before between after applied skipped)

-- ---- A node

abbrev EdgeAt : Program → Node → Option Command → Kind → Node → Type 0
EdgeAt p n o kind to = MatchOption o ((n.at ≡ length p.commands) × ReadsLine n start kind to) (λ c. CommandEdge p c n kind to)

at_node : (p : Program) (n : Node) (o : Option Command) (edges : List (Node × Kind)) → slice_get p.commands n.at ≡ o → Adds (EdgeAt p n o) [] edges
    → ListsEdges (map (edge_to n) edges) (FlowFrom p n)
at_node p n o edges is lists = let listed = lists_edges n edges (EdgeAt p n o) lists in record {
  in_order = listed.in_order;
  same = λ e. (λ h. let k = (listed.same e).0 h in (forth e k, k.0), λ h. (listed.same e).1 (h.1, back e h));
}
  where
    forth : (e : Edge) → (e.from ≡ n) × EdgeAt p n o e.kind e.to → Flow p e
    forth e (from, h) = subst (λ (m : Node). EdgeAt p m (slice_get p.commands m.at) e.kind e.to) (sym from) (subst (λ x. EdgeAt p n x e.kind e.to) (sym is) h)

    back : (e : Edge) → Flow p e × (e.from ≡ n) → EdgeAt p n o e.kind e.to
    back e (h, from) = subst (λ x. EdgeAt p n x e.kind e.to) is (subst (λ (m : Node). EdgeAt p m (slice_get p.commands m.at) e.kind e.to) from h)

pub at_command : (p : Program) (n : Node) (c : Command) (edges : List (Node × Kind)) → slice_get p.commands n.at ≡ Some c
    → Adds (CommandEdge p c n) [] edges → ListsEdges (map (edge_to n) edges) (FlowFrom p n)
at_command p n c edges is lists = at_node p n (Some c) edges is lists

pub at_end : (p : Program) (n : Node) (edges : List (Node × Kind)) → slice_get p.commands n.at ≡ None → n.at ≡ length p.commands
    → Adds (ReadsLine n start) [] edges → ListsEdges (map (edge_to n) edges) (FlowFrom p n)
at_end p n edges is place lists = at_node p n None edges is
    (adds_same (ReadsLine n start) (EdgeAt p n None) [] edges (λ k t. (λ h. (place, h), λ h. h.1)) lists)

-- ---- What a script's invariant says of one command

target_below : (m n : ℕ) (v : Verb) → m ≤ n → IsTargetWithin m v → IsTargetWithin n v
target_below m n (Branch target) le h = omega arith
target_below m n (Test target) le h = omega arith
target_below m n (Block target) le h = omega arith
target_below m n _ le h = tt

pub has_target : (p : Program) → IsScript p → (at : ℕ) (c : Command) → slice_get p.commands at ≡ Some c → IsTargetWithin 4095 c.verb
has_target p script at c e = target_below (length p.commands) 4095 c.verb script.count (target_at p script.targets at c e)

pub has_replacement : (p : Program) → IsScript p → (at : ℕ) (c : Command) → slice_get p.commands at ≡ Some c → IsReplacement c.verb
has_replacement p script at c e =
    All-contains (λ (d : Command). IsReplacement d.verb) p.commands c script.replacements
    (at, slice_get_within p.commands at c e, get_or_from_slice_get p.commands at c c e)

formed_pattern : (p : Program) → AreWellFormed p → (pattern : Pattern) → ((tree : Tree) → StandsFor p pattern tree → Contains (expressions p.commands) tree)
    → IsFormed pattern
formed_pattern p formed Previous known = tt
formed_pattern p formed (Expression own) known = All-contains IsWellFormed (expressions p.commands) own formed (known own refl)

formed_verb : (p : Program) → AreWellFormed p → (v : Verb) → IsKnown p v → HasFormed v
formed_verb p formed (Substitute s) known = formed_pattern p formed s.pattern known
formed_verb p formed _ known = tt

pub has_formed : (p : Program) → IsScript p → (at : ℕ) (c : Command) → slice_get p.commands at ≡ Some c → HasFormed c.verb
has_formed p script at c e = formed_verb p script.formed c.verb (known_at p at c e)

-- ---- Where the code reads the commands

pub read_command : (p : Program) (cs : List Coded) (i at : ℕ) (c : Coded) → map command_of cs ≡ p.commands → i ≡ at → i < length cs
    → c ≡ get_or cs i c → slice_get p.commands at ≡ Some (command_of c)
read_command p cs i at c all place below is =
    ap (λ xs. slice_get xs at) (sym all) ∙ ap (slice_get (map command_of cs)) (sym place)
    ∙ slice_get-map command_of cs i ∙ ap (option_map command_of) (slice_get_read cs (length cs) i c refl below is)

pub read_none : (p : Program) (cs : List Coded) (i at : ℕ) → map command_of cs ≡ p.commands → i ≡ at → length cs ≤ i → slice_get p.commands at ≡ None
read_none p cs i at all place past =
    slice_get_past p.commands at (omega (arith, ap length all, length-map cs command_of))
