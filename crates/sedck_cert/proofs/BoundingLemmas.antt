-- The bound of a steady script: its numbers, its limit, and the edges that don't grow.
use Rattle.sedck_cert.proofs.Common.{◌≡◌, ◌≢◌, ℕ, ◌+◌, ◌<◌, List, [], ◌∷◌, ◌++◌, length, take, get_or, refl, sym, ap, ◌∙◌, arith, is_some, MatchOption, AllByRecursion, nat_cmp, common_steps, take_more, Contains-append_right, AreWellFormed, Program, ListsEdges, Flow, FlowFrom, Node, Edge, Grow, WideRun, character_run_wide, Certificate, ranks_at, IsSteady, NeverGrows, IsFirstGrowth, BoundsRuns, BoundsAllRuns, BoundsEverywhere, Bound, max, ord_max, IsGrowth, greatest, IsBoundOf}
use Rattle.std.specs.Prelude.{false, Option, Some, None}
use Rattle.sedck_cert.proofs.SteadyRunsCounted.{steady_counted, wide_steady_counted}

-- the edges are these, of which none so far grows
pub record HasNoGrowUpTo (IsEdge : Edge → Type 0) (done coming : List Edge) : Type 0 where
  pub listed : ListsEdges (done ++ coming) IsEdge
  pub none : AllByRecursion (λ e. e.kind ≢ Grow) done

-- an edge of a node with ranks on which the pattern space may grow
pub one_grows : (p : Program) (c : Certificate) (n : Node) (done coming : List Edge) (e : Edge) → ListsEdges (done ++ e ∷ coming) (FlowFrom p n)
    → e.kind ≡ Grow → ranks_at c n ≢ None
    → IsGrowth c (FlowFrom p n) e
one_grows p c n done coming e listed grows ranked =
    let is_edge = (listed.same e).0 (Contains-append_right done (e ∷ coming) e (0, omega arith, refl)) in
    record { is_edge = is_edge; grows = grows; ranked = λ none. ranked (ap (ranks_at c) (sym is_edge.1) ∙ none) }

-- an accepted certificate is steady exactly where there is none
pub grows_nowhere : (p : Program) (c : Certificate) (found : Option Edge) → MatchOption found (NeverGrows c (Flow p)) (IsFirstGrowth p c) → is_some found ≡ false
    → NeverGrows c (Flow p)
grows_nowhere p c None given none = given
grows_nowhere p c (Some e) given none = cc

-- ---- The greatest ranks, one node more at a time

greatest-push : (rank : ℕ × ℕ → ℕ) (ranks : List (Option (ℕ × ℕ))) (r : Option (ℕ × ℕ))
    → greatest rank (ranks ++ r ∷ []) ≡ max (greatest rank ranks) (greatest rank (r ∷ []))
greatest-push rank [] r = omega arith
greatest-push rank (None ∷ ranks) r = greatest-push rank ranks r
greatest-push rank (Some x ∷ ranks) r = omega (arith, greatest-push rank ranks r)

-- `max` of the program is that of numbers
pub ord_max-max : (a b : ℕ) → ord_max nat_cmp a b ≡ max a b
ord_max-max a b = grind (arith, common_steps)

-- a node more, with ranks or without
pub greatest_more : (rank : ℕ × ℕ → ℕ) (ranks : List (Option (ℕ × ℕ))) (i : ℕ) (r : Option (ℕ × ℕ)) → i < length ranks → get_or ranks i None ≡ r
    → greatest rank (take (i + 1) ranks) ≡ max (greatest rank (take i ranks)) (greatest rank (r ∷ []))
greatest_more rank ranks i r below is = ap (greatest rank) (take_more ranks i None below) ∙ greatest-push rank (take i ranks) (get_or ranks i None)
    ∙ ap (λ o. max (greatest rank (take i ranks)) (greatest rank (o ∷ []))) is

-- ---- The limit

pub bounds_runs : (p : Program) → AreWellFormed p → (c : Certificate) (b : Bound) → IsSteady p c → IsBoundOf c b → BoundsRuns p b
bounds_runs p formed c b steady numbers lines steps run =
    rw (numbers.per_byte, numbers.per_line, numbers.fixed) (omega (arith, steady_counted p formed c steady lines steps run))

bounds_wide_runs : (p : Program) → AreWellFormed p → (c : Certificate) (b : Bound) → IsSteady p c → IsBoundOf c b → (d : ℕ) → BoundsAllRuns b (WideRun p d)
bounds_wide_runs p formed c b steady numbers d files steps run =
    rw (numbers.per_byte, numbers.per_line, numbers.fixed) (omega (arith, wide_steady_counted p formed c steady d files steps run))

pub bounds_everywhere : (p : Program) → AreWellFormed p → (c : Certificate) (b : Bound) → IsSteady p c → IsBoundOf c b → BoundsEverywhere p b
bounds_everywhere p formed c b steady numbers = record {
  by_bytes = bounds_wide_runs p formed c b steady numbers;
  by_characters = λ safe d files steps run. bounds_wide_runs p formed c b steady numbers d files steps (character_run_wide p safe d files steps run);
}
