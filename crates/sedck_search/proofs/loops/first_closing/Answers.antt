use Rattle.sedck_search.proofs.Common.{◌≡◌, ◌<◌, ℕ, List, true, false, inl, inr, sym, ap, ◌∙◌, arith, MatchOption, cases_lt, Program, node_index, Node, Edge, Kind, node_same, Closes, IsFirstClosing, is_some}
use Rattle.std.proofs.Common.{Option, Some, None}
use Rattle.std.specs.Prelude.{◌≢◌}
use Rattle.sedck_cert.proofs.CheckingLemmas.{leaves_below}
use Rattle.sedck_search.proofs.loops.first_closing.Goals as goal

pub nth-requires : goal.nth-requires
nth-requires c = let below : c.loop-index.index < 262144 = omega (arith, c.loop-index-test.true, c.requires.long, c.requires.script.count) in below

-- the first edge is of this node, since none before it has one
found : (p : Program) (kind : Kind) (counts : List ℕ) (n : Node) (o : Option Edge) → ((e : Edge) → node_index e.from < node_index n → ¬ Closes p kind counts e)
    → MatchOption o ((e : Edge) → Closes p kind counts e → e.from ≢ n) (λ e. Closes p kind counts e × (e.from ≡ n)) → is_some o ≡ true
    → MatchOption o ((e : Edge) → ¬ Closes p kind counts e) (IsFirstClosing p kind counts)
found p kind counts n None before h is = cc
found p kind counts n (Some e) before h is = record {
  closes = h.0;
  first = λ f closes. elim (cases_lt (node_index f.from) (node_index e.from)) [
    | inl less ↦ absurd (before f (omega (arith, less, ap node_index h.1)) closes)
    | inr more ↦ more
  ];
}

pub returns-then-is_some : goal.returns-then-is_some
returns-then-is_some c =
    found c.args.graph.script.now c.args.kind c.args.counts.now c.nth.result c.first_closing_from-edge.result
    (λ e less. c.loop-index.invariant e (omega (arith, less, c.nth.ensures)))
    c.first_closing_from-edge.ensures (sym c.is_some.ensures ∙ c.if-is_some.true)

-- none of this node does either
none : (p : Program) (kind : Kind) (counts : List ℕ) (n : Node) (o : Option Edge)
    → MatchOption o ((e : Edge) → Closes p kind counts e → e.from ≢ n) (λ e. Closes p kind counts e × (e.from ≡ n)) → is_some o ≡ false
    → (e : Edge) → Closes p kind counts e → e.from ≢ n
none p kind counts n None h is = h
none p kind counts n (Some e) h is = cc

pub loop-index-preserved : goal.loop-index-preserved
loop-index-preserved c = λ e less closes. elim (cases_lt (node_index e.from) c.loop-index.index) [
  | inl before ↦ c.loop-index.invariant e before closes
  | inr more ↦
      let same : node_index e.from ≡ node_index c.nth.result = omega (arith, less, more, c.nth.ensures) in
      none c.args.graph.script.now c.args.kind c.args.counts.now c.nth.result c.first_closing_from-edge.result c.first_closing_from-edge.ensures
      (sym c.is_some.ensures ∙ c.if-is_some.false) e closes (node_same e.from c.nth.result same)
]

pub returns : goal.returns
returns c = λ e closes.
    let below : node_index e.from < c.loop-index.index =
    omega (arith, leaves_below c.args.graph.script.now e closes.is_edge, c.requires.long, c.loop-index-test.false) in
    c.loop-index.invariant e below closes
