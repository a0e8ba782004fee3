-- The limit of a falling script: its numbers, and the edges that lower the first rank.
use Rattle.sedck_cert.proofs.Common.{◌≡◌, ℕ, List, [], ◌∷◌, ◌++◌, Contains, refl, arith, append_assoc, All-from_recursion, All-contains, Contains-append_right, AllByRecursion, all_append, AreWellFormed, Program, ListsEdges, Edge, WideRun, character_run_wide, Certificate, LowersFirst, AllLowerFirst, IsFalling, BoundsRuns, BoundsAllRuns, BoundsEverywhere, Bound, IsBoundByLines}
use Rattle.std.proofs.lemmas.List.{append-nil}
use Rattle.sedck_cert.proofs.FallingRunsCounted.{falling_counted, wide_falling_counted}

-- the edges are these, of which those so far lower the first rank
pub record LowerUpTo (c : Certificate) (IsEdge : Edge → Type 0) (done coming : List Edge) : Type 0 where
  pub listed : ListsEdges (done ++ coming) IsEdge
  pub lower : AllByRecursion (LowersFirst c) done

-- one of the edges doesn't
pub one_stays : (c : Certificate) (IsEdge : Edge → Type 0) (done coming : List Edge) (e : Edge) → ListsEdges (done ++ e ∷ coming) IsEdge
    → ¬ LowersFirst c e → ¬ AllLowerFirst c IsEdge
one_stays c IsEdge done coming e listed stays all =
    stays (all e ((listed.same e).0 (Contains-append_right done (e ∷ coming) e (0, omega arith, refl))))

-- one edge more does
pub one_more : (c : Certificate) (IsEdge : Edge → Type 0) (done coming : List Edge) (e : Edge) → ListsEdges (done ++ e ∷ coming) IsEdge
    → AllByRecursion (LowersFirst c) done → LowersFirst c e → LowerUpTo c IsEdge (done ++ e ∷ []) coming
one_more c IsEdge done coming e listed lower one = record {
  listed = rw append_assoc listed;
  lower = all_append (LowersFirst c) done (e ∷ []) lower (one, tt);
}

-- all of them do
pub all_done : (c : Certificate) (IsEdge : Edge → Type 0) (done coming : List Edge) → LowerUpTo c IsEdge done coming → coming ≡ []
    → AllLowerFirst c IsEdge
all_done c IsEdge done coming up none e is_edge =
    let among : Contains done e = rw (none, append-nil) at (up.listed.same e).1 is_edge in
    All-contains (LowersFirst c) done e (All-from_recursion (LowersFirst c) done up.lower) among

pub bounds_runs : (p : Program) → AreWellFormed p → (c : Certificate) (b : Bound) → IsFalling p c → IsBoundByLines c b → BoundsRuns p b
bounds_runs p formed c b falling numbers lines steps run =
    rw (numbers.per_byte, numbers.per_line, numbers.fixed) (omega (arith, falling_counted p formed c falling lines steps run))

bounds_wide_runs : (p : Program) → AreWellFormed p → (c : Certificate) (b : Bound) → IsFalling p c → IsBoundByLines c b → (d : ℕ) → BoundsAllRuns b (WideRun p d)
bounds_wide_runs p formed c b falling numbers d files steps run =
    rw (numbers.per_byte, numbers.per_line, numbers.fixed) (omega (arith, wide_falling_counted p formed c falling d files steps run))

pub bounds_everywhere : (p : Program) → AreWellFormed p → (c : Certificate) (b : Bound) → IsFalling p c → IsBoundByLines c b → BoundsEverywhere p b
bounds_everywhere p formed c b falling numbers = record {
  by_bytes = bounds_wide_runs p formed c b falling numbers;
  by_characters = λ safe d files steps run. bounds_wide_runs p formed c b falling numbers d files steps (character_run_wide p safe d files steps run);
}
