-- States of a run are distinguished, and are the same only where their machines are; what is read where a cycle begins.
use Rattle.sedck_flow.proofs.Common.{◌≡◌, ℕ, ◌≤◌, List, [], ◌∷◌, ◌++◌, length, sym, ap, subst, inl, inr, arith, Files, Machine, At, Done, begin_file, BeginsFile, NextCycle, all_lines, lines_left, start, is_last, node_of, BeginsNextFile}

pub at_inj : {m n : Machine} → At m ≡ At n → m ≡ n
at_inj e = cc

pub at-done : {m : Machine} → At m ≡ Done → ⊥
at-done e = cc

-- a line is read, which is the pattern space of a cycle that begins; with it the lines that are left are those that were
pub record BeginsWith (lines : List (List ℕ)) (hold : List ℕ) (n : Machine) : Type 0 where
  pub line : List ℕ
  pub read : lines ≡ line ∷ lines_left n
  pub is_pattern : n.pattern ≡ line
  pub no_longer : length n.hold ≤ length hold
  pub at_start : node_of n ≡ start (is_last n.unread)

begins_with : (line : List ℕ) (file : List (List ℕ)) (later : Files) (hold : List ℕ) (n : Machine)
    → At n ≡ begin_file ((line ∷ file) ∷ later) hold → BeginsWith (line ∷ (file ++ all_lines later)) hold n
begins_with line file later hold n e = let is = at_inj e in record {
  line = line;
  read = ap (λ (x : Machine). line ∷ lines_left x) (sym is);
  is_pattern = ap (λ (x : Machine). x.pattern) is;
  no_longer = omega (arith, ap (λ (x : Machine). length x.hold) is);
  at_start = ap (λ (x : Machine). record { at = x.at; flag = x.flag; last = is_last n.unread }) is;
}

pub file_begins : (files : Files) (hold : List ℕ) (n : Machine) → At n ≡ begin_file files hold → BeginsWith (all_lines files) hold n
file_begins [] hold n e = absurd (at-done e)
file_begins ([] ∷ later) hold n e = file_begins later hold n e
file_begins ((line ∷ file) ∷ later) hold n e = begins_with line file later hold n e

-- with the hold space as it was, or empty
pub next_begins : (later : Files) (hold : List ℕ) (n : Machine) → BeginsFile later hold (At n) → BeginsWith (all_lines later) hold n
next_begins later hold n (new, kept, e) =
    let b = file_begins later new n e in
    let shorter : length new ≤ length hold = elim kept [ inl same ↦ omega (arith, ap length same) | inr empty ↦ omega (arith, ap length empty) ] in
    record { line = b.line; read = b.read; is_pattern = b.is_pattern; no_longer = omega (arith, b.no_longer, shorter); at_start = b.at_start }

pub cycle_begins : (later : Files) (unread : List (List ℕ)) (hold : List ℕ) (n : Machine) → NextCycle unread later hold (At n)
    → BeginsWith (unread ++ all_lines later) hold n
cycle_begins later [] hold n e = next_begins later hold n e
cycle_begins later (line ∷ unread) hold n e = begins_with line unread later hold n e

-- the next file, where none is left in the current one
pub next_file_begins : (m n : Machine) → BeginsNextFile m n → BeginsWith (lines_left m) m.hold n
next_file_begins m n (none, e) =
    subst (λ (u : List (List ℕ)). BeginsWith (u ++ all_lines m.later) m.hold n) (sym none) (next_begins m.later m.hold n e)
