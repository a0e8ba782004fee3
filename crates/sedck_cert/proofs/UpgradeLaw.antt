-- An upgraded certificate is accepted where the certificate of version 1 was.
use Rattle.sedck_cert.proofs.Common.{◌≡◌, ℕ, zero, suc, ◌+◌, ◌*◌, ◌<◌, Bool, true, false, List, [], ◌∷◌, length, refl, sym, ap, ◌∙◌, inl, inr, arith, MatchOption, slice_get, if◌then◌else◌, option_flatten, false≢true, Address, Substitution, Verb, Substitute, Command, Program, start, node_index, Node, Kind, Consume, Shorten, Keep, Grow, Certificate, ranks_at, Lowers, Accepts, doubled, upgraded, HasKind, ranks_at_one, AcceptsOne}
use Rattle.std.specs.Prelude.{Option, Some, None}
use Rattle.sedck_flow.specs.LiteralKinds.{is_literal, HasLiteralKind}
use Rattle.sedck_flow.specs.VersionOne.{NodeOne, plain_node, plain_edge, start_one, node_index_one, VerbEdgeOne, CommandEdgeOne}
use Rattle.sedck_flow.proofs.KindsAgree.{literal_kinds_stay}
use Rattle.sedck_flow.proofs.PlainEdges.{plain}

-- ---- The ranks of a node are those of the node without the last line

slice_get-doubled : (all : List (Option (ℕ × ℕ))) (i b j : ℕ) → b < 2 → j ≡ 2 * i + b → slice_get (doubled all) j ≡ slice_get all i
slice_get-doubled [] i b j h e = refl
slice_get-doubled (r ∷ all) zero b zero h e = refl
slice_get-doubled (r ∷ all) zero b (suc zero) h e = refl
slice_get-doubled (r ∷ all) (suc i) b (suc (suc j)) h e = slice_get-doubled all i b j h (omega arith)
slice_get-doubled (r ∷ all) i b j h e = absurd (omega arith)

index_of : (at : ℕ) (flag last : Bool)
    → 4 * at + (if flag then 2 else 0) + (if last then 1 else 0) ≡ 2 * (2 * at + (if flag then 1 else 0)) + (if last then 1 else 0)
index_of at flag last = grind arith

below_two : (last : Bool) → (if last then 1 else 0) < 2
below_two last = grind arith

pub ranks_plain : (c : Certificate) (n : Node) → ranks_at (upgraded c) n ≡ ranks_at_one c (plain_node n)
ranks_plain c n = ap option_flatten (slice_get-doubled c.ranks (node_index_one (plain_node n)) (if n.last then 1 else 0) (node_index n)
    (below_two n.last) (index_of n.at n.flag n.last))

-- ---- With references

pub accepted : (p : Program) (c : Certificate) → AcceptsOne (HasKind p) p c → Accepts p (upgraded c)
accepted p c one =
    let a = one in
    record {
      count = a.count;
      ranked = record {
        start_ranks = λ _. a.ranked.start_ranks;
        has_start = λ last. ranks_plain c (start last) ∙ a.ranked.has_start;
        meets = λ e h before has.
            let met = a.ranked.meets (plain_edge e) (plain p e h) before (sym (ranks_plain c e.from) ∙ has) in
            (met.0, ranks_plain c e.to ∙ met.1, met.2);
      };
      reads = a.reads;
      writes = a.writes;
    }

-- ---- By literal parts alone

-- what a growing edge asks is enough for any other
grow_enough : (kind : Kind) (a b : ℕ × ℕ) → Lowers Grow a b → Lowers kind a b
grow_enough Consume a b h = tt
grow_enough Shorten a b h = omega arith
grow_enough Keep a b h = inl h
grow_enough Grow a b h = h

-- a kind of the literal table asks as much
abbrev AsksAsMuch : (Kind → Type 0) → Kind → Type 0
AsksAsMuch Had kind = (before : Kind) × Had before × ((a b : ℕ × ℕ) → Lowers before a b → Lowers kind a b)

success_asks : (p : Program) (s : Substitution) (kind : Kind) (literal : Bool) → is_literal s.parts ≡ literal → HasKind p s kind
    → AsksAsMuch (HasLiteralKind p s) kind
success_asks p s kind true is h = (kind, (literal_kinds_stay p s is kind).0 h, λ a b k. k)
success_asks p s kind false is h = (Grow, (λ never. false≢true (sym is ∙ never.0)), grow_enough kind)

verb_asks : (p : Program) (a : Address) (v : Verb) (n : NodeOne) (kind : Kind) (to : NodeOne) → VerbEdgeOne (HasKind p) a v n kind to
    → AsksAsMuch (λ before. VerbEdgeOne (HasLiteralKind p) a v n before to) kind
verb_asks p a (Substitute s) n kind to (inl h) = (kind, inl h, λ x y k. k)
verb_asks p a (Substitute s) n kind to (inr (has, ends)) =
    let old = success_asks p s kind (is_literal s.parts) refl has in (old.0, inr (old.1, ends), old.2)
verb_asks p a v n kind to h = (kind, h, λ x y k. k)

edge_asks : (p : Program) (o : Option Command) (n : NodeOne) (kind : Kind) (to : NodeOne)
    → MatchOption o ((n.at ≡ length p.commands) × (kind ≡ Consume) × (to ≡ start_one)) (λ c. CommandEdgeOne (HasKind p) c n kind to)
    → AsksAsMuch (λ before. MatchOption o ((n.at ≡ length p.commands) × (before ≡ Consume) × (to ≡ start_one)) (λ c. CommandEdgeOne (HasLiteralKind p) c n before to)) kind
edge_asks p None n kind to h = (kind, h, λ a b k. k)
edge_asks p (Some c) n kind to (inl h) = (kind, inl h, λ a b k. k)
edge_asks p (Some c) n kind to (inr h) = let old = verb_asks p c.address c.verb n kind to h in (old.0, inr old.1, old.2)

-- what was accepted by literal parts alone is accepted with references
with_references : (p : Program) (c : Certificate) → AcceptsOne (HasLiteralKind p) p c → AcceptsOne (HasKind p) p c
with_references p c one =
    let a = one in
    record {
      count = a.count;
      ranked = record {
        start_ranks = a.ranked.start_ranks;
        has_start = a.ranked.has_start;
        meets = λ e h before has.
            let old = edge_asks p (slice_get p.commands e.from.at) e.from e.kind e.to h in
            let met = a.ranked.meets (record { from = e.from; to = e.to; kind = old.0 }) old.1 before has in
            (met.0, met.1, old.2 before met.0 met.2);
      };
      reads = a.reads;
      writes = a.writes;
    }

pub literal_accepted : (p : Program) (c : Certificate) → AcceptsOne (HasLiteralKind p) p c → Accepts p (upgraded c)
literal_accepted p c one = accepted p c (with_references p c one)
