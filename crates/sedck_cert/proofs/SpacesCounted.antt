-- The spaces of a compact script: the pattern space and what is left to read are never longer than the input, and the hold space only takes the pattern space.
use Rattle.sedck_cert.proofs.Common.{◌≡◌, ◌≢◌, ℕ, suc, ◌+◌, ◌≤◌, List, [], ◌∷◌, length, refl, sym, ap, ◌∙◌, inl, inr, arith, AreWellFormed, Program, Files, Machine, State, Start, At, Done, Event, StepIn, StepsIn, Run, any_locale, WideRun, all_lines, character_run_wide, newline, lines_left, bytes_of, node_of, IsTruthful, Kind, Consume, Shorten, Keep, Grow, wide_follows, run_is_wide, step_begun, AddsLine, step_adds, at_inj, at-done, file_begins, next_file_begins, Certificate, IsCompact, IsInputSize, AreSpacesWithin, Bound, none-some, state_after, BoundsSpaces, BoundsAllSpaces, BoundsSpacesEverywhere}
use Rattle.sedck_cert.proofs.RanksBoundRuns.{HasRanks, same_left, fewer_left, starts_ranked, one_file}
use Rattle.sedck_cert.proofs.HoldKept.{hold_within}

-- the bytes of lines, with a newline for each
abbrev pub size_of : List (List ℕ) → ℕ
size_of lines = bytes_of lines + length lines

-- the pattern space with what is left to read, and the hold space, are within the size
pub record IsWithin (size : ℕ) (m : Machine) : Type 0 where
  pub pattern : length m.pattern + size_of (lines_left m) ≤ size
  pub hold : length m.hold ≤ size

-- ---- The pattern space

-- a line is read
reads_keep : (m n : Machine) → AddsLine m n → length (lines_left m) ≡ suc (length (lines_left n))
    → length n.pattern + size_of (lines_left n) ≤ length m.pattern + size_of (lines_left m)
reads_keep m n (inl same) read = absurd (omega (arith, ap length same, read))
reads_keep m n (inr adds) read = omega (arith, read, adds)

by_kind : (kind : Kind) (m n : Machine) → n.later ≡ m.later → AddsLine m n → IsTruthful kind m n → kind ≢ Grow
    → length n.pattern + size_of (lines_left n) ≤ length m.pattern + size_of (lines_left m)
by_kind Consume m n same adds (line, read) no_grow = reads_keep m n adds (fewer_left m n line same read)
by_kind Shorten m n same adds (unread, shorter) no_grow = omega (arith, ap size_of (same_left m n same unread))
by_kind Keep m n same adds (unread, longer) no_grow = omega (arith, ap size_of (same_left m n same unread))
by_kind Grow m n same adds unread no_grow = absurd (no_grow refl)

-- ---- A step, and a run

-- a step leads from ranks to ranks, and stays within the size
abbrev pub StaysWithin : Program → ℕ → ℕ → (Machine → ℕ × ℕ → Type 0) → Type 0
StaysWithin p d size Has = (m n : Machine) (e : Event) → StepIn any_locale d p (At m) e (At n) → (a : ℕ × ℕ) → Has m a
    → IsWithin size m → (b : ℕ × ℕ) × Has n b × IsWithin size n

spaces : (size : ℕ) (m : Machine) → IsWithin size m → AreSpacesWithin size m
spaces size m within = (omega (arith, within.pattern), within.hold)

after : (p : Program) (d size : ℕ) (Has : Machine → ℕ × ℕ → Type 0) → StaysWithin p d size Has → (steps : List (Event × State)) (m : Machine)
    (a : ℕ × ℕ) → Has m a → IsWithin size m → StepsIn any_locale d p (At m) steps → (n : Machine)
    → state_after (At m) steps ≡ (At n) → AreSpacesWithin size n
after p d size Has stays [] m a has within h n is =
    let same : m ≡ n = at_inj is in
    (omega (arith, within.pattern, ap (λ (x : Machine). length x.pattern) same), omega (arith, within.hold, ap (λ (x : Machine). length x.hold) same))
after p d size Has stays ((e, Start others) ∷ more) m a has within h n is =
    absurd (step_begun any_locale d p (At m) e (Start others) h.0)
after p d size Has stays ((e, Done) ∷ []) m a has within h n is =
    absurd (at-done (sym is))
after p d size Has stays ((e, Done) ∷ next ∷ more) m a has within h n is = absurd h.1.0
after p d size Has stays ((e, At k) ∷ more) m a has within h n is =
    let next = stays m k e h.0 a has within in
    after p d size Has stays more k next.0 next.1 next.2 h.1 n is

compact_stays : (p : Program) → AreWellFormed p → (d size : ℕ) (c : Certificate) → IsCompact p c → StaysWithin p d size (HasRanks c)
compact_stays p formed d size c compact m n e h a has within =
    let hold = hold_within p d size m (spaces size m within) compact.never_appends n e h in
    let adds = step_adds p d m n e h in
    elim (wide_follows p formed d m n e h) [
      | inl (same, edge) ↦
          let meets = compact.steady.accepted.ranked.meets (record { from = node_of m; to = node_of n; kind = edge.kind }) edge.is_edge a has in
          let no_grow : edge.kind ≢ Grow = λ is. none-some _
          (sym (compact.steady.never_grows (record { from = node_of m; to = node_of n; kind = edge.kind }) edge.is_edge is) ∙ has) in (
            meets.0,
            meets.1,
            record {
              pattern = omega (arith, within.pattern, by_kind edge.kind m n same adds edge.is_truthful no_grow);
              hold = hold;
            },
          )
      | inr begins ↦
          let first = next_file_begins m n begins in
          let here = starts_ranked p c compact.steady.accepted.ranked n first.at_start in (
            here.0,
            here.1,
            record { pattern = omega (arith, within.pattern, reads_keep m n adds (ap length first.read)); hold = hold },
          )
    ]

pub wide_spaces : (p : Program) → AreWellFormed p → (c : Certificate) → IsCompact p c → (d : ℕ) (files : Files) (steps : List (Event × State))
    → StepsIn any_locale d p (Start files) steps → (n : Machine) → state_after (Start files) steps ≡ (At n)
    → AreSpacesWithin (size_of (all_lines files)) n
wide_spaces p formed c compact d files [] h n is = absurd (let first : Start files ≡ At n = is in cc)
wide_spaces p formed c compact d files ((e, Start others) ∷ more) h n is =
    absurd (step_begun any_locale d p (Start files) e (Start others) h.0)
wide_spaces p formed c compact d files ((e, Done) ∷ []) h n is =
    absurd (at-done (sym is))
wide_spaces p formed c compact d files ((e, Done) ∷ next ∷ more) h n is = absurd h.1.0
wide_spaces p formed c compact d files ((e, At m) ∷ more) h n is =
    let begins = file_begins files [] m h.0.1 in
    let here = starts_ranked p c compact.steady.accepted.ranked m begins.at_start in
    let size : size_of (all_lines files) ≡ length begins.line + bytes_of (lines_left m) + suc (length (lines_left m)) =
    ap size_of begins.read in
    after p d (size_of (all_lines files)) (HasRanks c) (compact_stays p formed d (size_of (all_lines files)) c compact) more m here.0 here.1
    (record { pattern = omega (arith, size, ap length begins.is_pattern); hold = omega (arith, begins.no_longer) }) h.1 n is

-- ---- A run, as a wide run on one file

pub run_spaces : (p : Program) → AreWellFormed p → (c : Certificate) → IsCompact p c → (lines : List (List ℕ)) (steps : List (Event × State))
    → Run p lines steps → (n : Machine) → state_after (Start (lines ∷ [])) steps ≡ At n → AreSpacesWithin (size_of lines) n
run_spaces p formed c compact lines steps h n is =
    let within = wide_spaces p formed c compact newline (lines ∷ []) steps (run_is_wide p lines steps h) n is in
    let same : size_of (all_lines (lines ∷ [])) ≡ size_of lines = ap size_of (one_file lines) in
    (omega (arith, within.0, same), omega (arith, within.1, same))

-- ---- The limit

pub bounds_spaces : (p : Program) → AreWellFormed p → (c : Certificate) (b : Bound) → IsCompact p c → IsInputSize b → BoundsSpaces p b
bounds_spaces p formed c b compact numbers lines steps run n is =
    let within = run_spaces p formed c compact lines steps run n is in
    rw (numbers.per_byte, numbers.per_line, numbers.fixed) (omega (arith, within.0), omega (arith, within.1))

bounds_wide_spaces : (p : Program) → AreWellFormed p → (c : Certificate) (b : Bound) → IsCompact p c → IsInputSize b → (d : ℕ)
    → BoundsAllSpaces b (WideRun p d)
bounds_wide_spaces p formed c b compact numbers d files steps run n is =
    let within = wide_spaces p formed c compact d files steps run n is in
    rw (numbers.per_byte, numbers.per_line, numbers.fixed) (omega (arith, within.0), omega (arith, within.1))

pub bounds_everywhere : (p : Program) → AreWellFormed p → (c : Certificate) (b : Bound) → IsCompact p c → IsInputSize b → BoundsSpacesEverywhere p b
bounds_everywhere p formed c b compact numbers = record {
  by_bytes = bounds_wide_spaces p formed c b compact numbers;
  by_characters = λ safe d files steps run. bounds_wide_spaces p formed c b compact numbers d files steps (character_run_wide p safe d files steps run);
}
