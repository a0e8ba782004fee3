-- The steps of a falling script: each line that is read allows one more step than the greatest first rank.
use Rattle.sedck_cert.proofs.Common.{◌≡◌, ◌≢◌, ℕ, suc, ◌+◌, ◌*◌, ◌<◌, ◌≤◌, List, [], ◌∷◌, length, ap, ◌∙◌, inl, inr, arith, AreWellFormed, Program, Files, Machine, State, Start, At, Done, Event, StepIn, StepsIn, Run, any_locale, all_lines, newline, lines_left, start, node_index, is_last, node_of, IsTruthful, Kind, Consume, Shorten, Keep, Grow, wide_follows, run_is_wide, step_begun, done_ends, Certificate, IsFalling, greatest_first, greatest_second, file_begins, next_file_begins, falling_limit}
use Rattle.sedck_cert.proofs.RanksBoundRuns.{AtMost, HasRanks, greatest_at, same_left, fewer_left, starts_ranked, one_file}

-- the steps that a machine has left: its first rank, and for each line one more than the greatest
abbrev left : ℕ → Machine → ℕ × ℕ → ℕ
left first m a = a.0 + (first + 1) * length (lines_left m)

-- a line is read
reads_fall : (first : ℕ) (m n : Machine) (a b : ℕ × ℕ) → b.0 ≤ first
    → length (lines_left m) ≡ suc (length (lines_left n)) → left first n b < left first m a
reads_fall first m n a b small read =
    let line : (first + 1) * length (lines_left m) ≡ (first + 1) * length (lines_left n) + (first + 1) =
    ap (λ l. (first + 1) * l) read ∙ omega arith in
    omega (arith, line)

-- no line is read
lowers_fall : (first : ℕ) (m n : Machine) (a b : ℕ × ℕ) → n.later ≡ m.later → n.unread ≡ m.unread → b.0 < a.0
    → left first n b < left first m a
lowers_fall first m n a b same unread less =
    let lines : (first + 1) * length (lines_left n) ≡ (first + 1) * length (lines_left m) =
    ap (λ l. (first + 1) * length l) (same_left m n same unread) in
    omega (arith, lines)

by_kind : (first : ℕ) (kind : Kind) (m n : Machine) (a b : ℕ × ℕ) → n.later ≡ m.later → b.0 ≤ first → IsTruthful kind m n
    → (kind ≢ Consume → b.0 < a.0) → left first n b < left first m a
by_kind first Consume m n a b same small (line, read) lower =
    reads_fall first m n a b small (fewer_left m n line same read)
by_kind first Shorten m n a b same small (unread, shorter) lower = lowers_fall first m n a b same unread (lower (λ is. cc))
by_kind first Keep m n a b same small (unread, longer) lower = lowers_fall first m n a b same unread (lower (λ is. cc))
by_kind first Grow m n a b same small unread lower = lowers_fall first m n a b same unread (lower (λ is. cc))

-- a step leads from ranks to ranks, and what is left falls
abbrev pub FallsRanks : Program → ℕ → ℕ → (Machine → ℕ × ℕ → Type 0) → Type 0
FallsRanks p d first Has = (m n : Machine) (e : Event) → StepIn any_locale d p (At m) e (At n) → (a : ℕ × ℕ) → Has m a
    → (b : ℕ × ℕ) × Has n b × (left first n b < left first m a)

counted : (p : Program) (d first : ℕ) (Has : Machine → ℕ × ℕ → Type 0) → FallsRanks p d first Has → (steps : List (Event × State)) (m : Machine)
    (a : ℕ × ℕ) → Has m a → StepsIn any_locale d p (At m) steps → length steps ≤ left first m a + 1
counted p d first Has falls [] m a has h = omega arith
counted p d first Has falls ((e, Start others) ∷ more) m a has h = absurd (step_begun any_locale d p (At m) e (Start others) h.0)
counted p d first Has falls ((e, Done) ∷ more) m a has h = omega (arith, done_ends any_locale d p more h.1)
counted p d first Has falls ((e, At n) ∷ more) m a has h =
    let next = falls m n e h.0 a has in
    omega (arith, next.2, counted p d first Has falls more n next.0 next.1 h.1)

-- a run, where the machine of each file's first line has ranks
run_counted : (p : Program) (d first second : ℕ) (Has : Machine → ℕ × ℕ → Type 0) → AtMost first second Has → FallsRanks p d first Has → (files : Files)
    → ((n : Machine) → node_of n ≡ start (is_last n.unread) → (a : ℕ × ℕ) × Has n a) → (steps : List (Event × State))
    → StepsIn any_locale d p (Start files) steps → length steps ≤ (first + 1) * length (all_lines files) + 1
run_counted p d first second Has at_most falls files starts [] h = omega arith
run_counted p d first second Has at_most falls files starts ((e, Start others) ∷ more) h =
    absurd (step_begun any_locale d p (Start files) e (Start others) h.0)
run_counted p d first second Has at_most falls files starts ((e, Done) ∷ more) h = omega (arith, done_ends any_locale d p more h.1)
run_counted p d first second Has at_most falls files starts ((e, At n) ∷ more) h =
    let begins = file_begins files [] n h.0.1 in
    let here = starts n begins.at_start in
    let small = at_most n here.0 here.1 in
    let line : (first + 1) * length (all_lines files) ≡ (first + 1) * length (lines_left n) + (first + 1) =
    ap (λ l. (first + 1) * length l) begins.read ∙ omega arith in
    omega (arith, line, small.0, counted p d first Has falls more n here.0 here.1 h.1)

-- ---- The ranks of a certificate

falling_falls : (p : Program) → AreWellFormed p → (d : ℕ) (c : Certificate) → IsFalling p c → FallsRanks p d (greatest_first c.ranks) (HasRanks c)
falling_falls p formed d c falling m n e h a has =
    elim (wide_follows p formed d m n e h) [
      | inl (same, edge) ↦
          let meets = falling.accepted.ranked.meets (record { from = node_of m; to = node_of n; kind = edge.kind }) edge.is_edge a has in
          let small = greatest_at c.ranks (node_index (node_of n)) meets.0 meets.1 in (
            meets.0,
            meets.1,
            by_kind (greatest_first c.ranks) edge.kind m n a meets.0 same small.0 edge.is_truthful
                (λ reads_none. falling.falls (record { from = node_of m; to = node_of n; kind = edge.kind }) edge.is_edge reads_none a has meets.0 meets.1),
          )
      | inr begins ↦
          let first = next_file_begins m n begins in
          let here = starts_ranked p c falling.accepted.ranked n first.at_start in
          let small = greatest_at c.ranks (node_index (node_of n)) here.0 here.1 in
          (here.0, here.1, reads_fall (greatest_first c.ranks) m n a here.0 small.0 (ap length first.read))
    ]

pub wide_falling_counted : (p : Program) → AreWellFormed p → (c : Certificate) → IsFalling p c → (d : ℕ) (files : Files) (steps : List (Event × State))
    → StepsIn any_locale d p (Start files) steps → length steps ≤ falling_limit c (all_lines files)
wide_falling_counted p formed c falling d files steps h =
    run_counted p d (greatest_first c.ranks) (greatest_second c.ranks) (HasRanks c) (λ m a has. greatest_at c.ranks (node_index (node_of m)) a has)
    (falling_falls p formed d c falling) files (starts_ranked p c falling.accepted.ranked) steps h

-- a run, as a wide run on one file
pub falling_counted : (p : Program) → AreWellFormed p → (c : Certificate) → IsFalling p c → (lines : List (List ℕ)) (steps : List (Event × State))
    → Run p lines steps → length steps ≤ falling_limit c lines
falling_counted p formed c falling lines steps h =
    let bound = wide_falling_counted p formed c falling newline (lines ∷ []) steps (run_is_wide p lines steps h) in
    let same : falling_limit c (all_lines (lines ∷ [])) ≡ falling_limit c lines = ap (falling_limit c) (one_file lines) in
    omega (arith, bound, same)
