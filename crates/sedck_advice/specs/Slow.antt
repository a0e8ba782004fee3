-- Expressions with which the matchers of seds may take very long, this project's own. No step of a run depends on them: POSIX says what
-- an expression matches (XBD 9.3), and not how long that takes to find out.
use Rattle.std.specs.Prelude.{ℕ, ◌+◌, ◌*◌, ◌||◌, ◌&&◌, max, Bool, true, false, List, Option, Some, None, nat_lt, sum_by, if◌then◌else◌}
use Rattle.std.specs.List.{list_any}
use Rattle.sedck_bre.specs.Tree.{Tree, Trees, Group, Ref, Seq, Repeat, Nil, Then}
use Rattle.sedck_expressions.specs.Misjudged.{may_be_empty}
use Rattle.sedck_script.specs.Program.{Program, Command}
use Rattle.sedck_script.specs.ByteSafe.{command_expressions}

abbrev pub is_reference : Tree → Bool
is_reference (Ref k) = true
is_reference _ = false

-- a repetition with this upper limit may go on after its first round
abbrev pub goes_round : Option ℕ → Bool
goes_round None = true
goes_round (Some most) = nat_lt 1 most

abbrev mutual
  -- A reference is repeated by itself, as in `\(.\)\1*`, or what may match nothing is repeated more than once, as in `\(a*\)*`: a matcher
  -- may try exponentially many ways.
  pub repeats_badly : Tree → Bool
  repeats_badly (Group k body) = repeats_badly body
  repeats_badly (Seq ts) = one_repeats_badly ts
  repeats_badly (Repeat body least most) = is_reference body || ((goes_round most && may_be_empty body) || repeats_badly body)
  repeats_badly _ = false

  pub one_repeats_badly : Trees → Bool
  one_repeats_badly Nil = false
  one_repeats_badly (Then t ts) = repeats_badly t || one_repeats_badly ts

-- as often as a body is written out: at most as often as it may be repeated; once where there is no limit, and at least once
abbrev pub copies : ℕ → Option ℕ → ℕ
copies least None = max least 1
copies least (Some most) = max most 1

abbrev mutual
  -- The items in intervals once these are written out, as `aaa` for `a\{3\}`. What is `inside` is in an interval that is written out
  -- more than once.
  pub written_out : (inside : Bool) → Tree → ℕ
  written_out inside (Group k body) = written_out inside body
  written_out inside (Seq ts) = all_written_out inside ts
  written_out inside (Repeat body least most) = copies least most * written_out (inside || nat_lt 1 (copies least most)) body
  written_out inside _ = if inside then 1 else 0

  pub all_written_out : (inside : Bool) → Trees → ℕ
  all_written_out inside Nil = 0
  all_written_out inside (Then t ts) = written_out inside t + all_written_out inside ts

-- an expression of one of the script's commands does
abbrev pub has_bad_repetition : Program → Bool
has_bad_repetition p = list_any (λ c. list_any repeats_badly (command_expressions c)) p.commands

-- the items that the script's intervals write out
abbrev pub interval_items : Program → ℕ
interval_items p = sum_by (λ c. sum_by (written_out false) (command_expressions c)) p.commands

-- the most of them with which a script isn't slow
abbrev pub item_limit : ℕ
item_limit = 2000

-- matching may take very long, or much memory
abbrev pub is_slow : Program → Bool
is_slow p = has_bad_repetition p || nat_lt item_limit (interval_items p)
