-- Worked examples of edges, steps, runs and substitutions.
use Rattle.std.specs.Prelude.{◌≡◌, ℕ, Bool, true, false, List, [], ◌∷◌, None, codes}
use Rattle.sedck_expressions.specs.Tree.{Tree, Byte, Any, Group, Seq, Repeat, Then, Nil}
use Rattle.sedck_commands.specs.Program.{Previous, Expression, Last, Context, NoAddress, One, Part, Text, Whole, Group as Reference, Substitution, Verb, Label, GetAppend, NextAppend, Delete, DeleteFirstLine, Quit, Substitute, Test, Transliterate, Command, Program}
use Rattle.sedck_script.specs.ByteSafe.{IsByteSafe}
use Rattle.sedck_flow.specs.declared.graph.Edge.{Edge}
use Rattle.sedck_flow.specs.declared.graph.Kind.{Kind}
use Rattle.sedck_flow.specs.declared.graph.Kind.TheVariants.{Consume, Shorten, Keep, Grow}
use Rattle.sedck_flow.specs.Flow.{Flow}
use Rattle.sedck_flow.specs.Patterns.{HasMatch}
use Rattle.sedck_bre.specs.WideMatch.{WideMatch}
use Rattle.sedck_flow.specs.Substitutes.{SubstitutesIn, Substitutes}
use Rattle.sedck_flow.specs.Run.{Files, Machine, At, Done, Silent, StepIn, Step, Run}
use Rattle.sedck_flow.specs.WideRun.{any_locale, WideRun}
use Rattle.sedck_flow.specs.Words.{edge_words}

-- a command with no address
abbrev pub plain_command : Verb → Command
plain_command verb = record { address = NoAddress; negated = false; verb = verb }

abbrev pub script_of : List Command → Program
script_of commands = record { commands = commands; quiet = false }

-- the expressions `x` and `x*`
abbrev pub one_x : Tree
one_x = Seq (Then (Byte 120) Nil)

abbrev pub any_xs : Tree
any_xs = Seq (Then (Repeat (Byte 120) 0 None) Nil)

-- `s/TREE/PARTS/`, with the flag `g` or without
abbrev pub replacing : Tree → List Part → Bool → Substitution
replacing tree parts global = record { pattern = Expression tree; parts = parts; global = global; print = false; nth = None; file = None }

-- `:a`, `s/TREE//`, `t a`
abbrev pub delete_matches : Tree → Program
delete_matches tree = script_of (plain_command (Label (codes "a")) ∷ plain_command (Substitute (replacing tree [] false)) ∷ plain_command (Test 0) ∷ [])

-- `/x/D`
abbrev pub drop_lines_with_x : Program
drop_lines_with_x = script_of (record { address = One (Context (Expression one_x)); negated = false; verb = DeleteFirstLine } ∷ [])

-- `$!N`
abbrev pub append_unless_last : Program
append_unless_last = script_of (record { address = One Last; negated = true; verb = NextAppend } ∷ [])

-- the expressions `ab` and `c`
abbrev pub a_then_b : Tree
a_then_b = Seq (Then (Byte 97) (Then (Byte 98) Nil))

abbrev pub one_c : Tree
one_c = Seq (Then (Byte 99) Nil)

-- `s//z/`
abbrev pub replacing_previous : Substitution
replacing_previous = record { pattern = Previous; parts = Text (codes "z") ∷ []; global = false; print = false; nth = None; file = None }

-- `/ab/s//z/` and `/c/d`: the empty expression may be `ab` or `c`
abbrev pub replace_previous : Program
replace_previous =
    script_of
    (record { address = One (Context (Expression a_then_b)); negated = false; verb = Substitute replacing_previous }
    ∷ record { address = One (Context (Expression one_c)); negated = false; verb = Delete } ∷ [])

-- the expressions `a\(b\)c` and `\(x\)`
abbrev pub b_in_group : Tree
b_in_group = Seq (Then (Byte 97) (Then (Group 1 (Seq (Then (Byte 98) Nil))) (Then (Byte 99) Nil)))

abbrev pub x_in_group : Tree
x_in_group = Seq (Then (Group 1 one_x) Nil)

-- `s/TREE/PARTS/` alone
abbrev pub replace_once : Tree → List Part → Program
replace_once tree parts = script_of (plain_command (Substitute (replacing tree parts false)) ∷ [])

-- `-\1-`
abbrev pub group_in_dashes : List Part
group_in_dashes = Text (codes "-") ∷ Reference 1 ∷ Text (codes "-") ∷ []

-- between these nodes, each by place, flag and whether the last line has been read
abbrev pub edge : ℕ → Bool → Bool → ℕ → Bool → Bool → Kind → Edge
edge at flag last at' flag' last' kind = record { from = record { at = at; flag = flag; last = last }; to = record { at = at'; flag = flag'; last = last' }; kind = kind }

-- at the first command with the pattern space `a`, these lines left, and these files after the current one
abbrev pub machine : List (List ℕ) → Files → Machine
machine unread later = record { at = 0; flag = false; unread = unread; later = later; pattern = codes "a"; hold = [] }

-- the same where a cycle has begun with this line, the last one of its file
abbrev pub begun : List ℕ → Files → Machine
begun line later = record (machine [] later) { pattern = line }

-- the files with the lines `b` and `c`, after one without lines
abbrev pub three_files : Files
three_files = [] ∷ (codes "b" ∷ []) ∷ (codes "c" ∷ []) ∷ []

-- the one file with the line `c`
abbrev pub last_file : Files
last_file = (codes "c" ∷ []) ∷ []

-- `é`, and that with its second byte repeated, or the whole of it
abbrev pub accent : Tree
accent = Seq (Then (Byte 195) (Then (Byte 169) Nil))

abbrev pub accent_byte_repeated : Tree
accent_byte_repeated = Seq (Then (Byte 195) (Then (Repeat (Byte 169) 0 None) Nil))

abbrev pub accent_repeated : Tree
accent_repeated = Seq (Then (Repeat (Group 1 accent) 0 None) Nil)

pub record ExamplesHold : Type 0 where
  -- an edge in words
  pub edge_text : edge_words (edge 1 false true 2 true true Shorten) ≡ codes "1 0 1 2 1 1 shorten"
  -- deleting an x shortens, deleting some x or none doesn't
  pub shortens : Flow (delete_matches one_x) (edge 1 false false 2 true false Shorten)
  pub not_keeps : ¬ Flow (delete_matches one_x) (edge 1 false false 2 true false Keep)
  pub keeps : Flow (delete_matches any_xs) (edge 1 false false 2 true false Keep)
  pub not_shortens : ¬ Flow (delete_matches any_xs) (edge 1 false false 2 true false Shorten)
  -- no other step than one that reads a line ends on the last line
  pub stays_before_last : ¬ Flow (delete_matches one_x) (edge 1 false false 2 true true Shorten)
  -- `t` resets the flag where it is set, and goes on where it isn't
  pub test_taken : Flow (delete_matches one_x) (edge 2 true true 0 false true Keep)
  pub test_passed : Flow (delete_matches one_x) (edge 2 false true 3 false true Keep)
  pub test_resets : ¬ Flow (delete_matches one_x) (edge 2 true true 0 true true Keep)
  -- `D` with the flag kept or reset, and skipped with the flag alone; on the last line it reads no other one
  pub drops_kept : Flow drop_lines_with_x (edge 0 true false 0 true false Shorten)
  pub drops_reset : Flow drop_lines_with_x (edge 0 true false 0 false false Shorten)
  pub drops_all : Flow drop_lines_with_x (edge 0 true false 0 false true Consume)
  pub drops_last : ¬ Flow drop_lines_with_x (edge 0 true true 0 false true Consume)
  pub skipped : Flow drop_lines_with_x (edge 0 true false 1 true false Keep)
  pub not_skipped : ¬ Flow drop_lines_with_x (edge 0 true false 1 false false Keep)
  -- after the last command a line is read and the flag is reset, where a line is left
  pub begins_again : Flow drop_lines_with_x (edge 1 true false 0 false true Consume)
  pub ends : ¬ Flow drop_lines_with_x (edge 1 true true 0 false true Consume)
  -- `$!N` reads a line where one is left, which may be the last, and is skipped where none is
  pub appends : Flow append_unless_last (edge 0 false false 1 false false Consume)
  pub appends_last : Flow append_unless_last (edge 0 false false 1 false true Consume)
  pub always_appends : ¬ Flow append_unless_last (edge 0 false false 1 false false Keep)
  pub passed_on_last : Flow append_unless_last (edge 0 false true 1 false true Keep)
  pub never_appends : ¬ Flow append_unless_last (edge 0 false true 1 false true Consume)
  -- `z` is as long as `c`, so an empty expression that may be `c` keeps the length and doesn't shorten it
  pub previous_keeps : Flow replace_previous (edge 0 false false 1 true false Keep)
  pub previous_not_shortens : ¬ Flow replace_previous (edge 0 false false 1 true false Shorten)
  -- `\1` in the place of `a\(b\)c` shortens; two dashes are as long as its rest; a group named twice may lengthen
  pub group_shortens : Flow (replace_once b_in_group (Reference 1 ∷ [])) (edge 0 false false 1 true false Shorten)
  pub group_keeps : Flow (replace_once b_in_group group_in_dashes) (edge 0 false false 1 true false Keep)
  pub group_twice_grows : Flow (replace_once x_in_group (Reference 1 ∷ Reference 1 ∷ [])) (edge 0 false false 1 true false Grow)
  -- `&` alone keeps the length, and two of them may lengthen
  pub whole_keeps : Flow (replace_once one_x (Whole ∷ [])) (edge 0 false false 1 true false Keep)
  pub whole_twice_grows : Flow (replace_once one_x (Whole ∷ Whole ∷ [])) (edge 0 false false 1 true false Grow)
  -- a match that selects a line may be anywhere in it
  pub selects_inside : HasMatch drop_lines_with_x (Expression one_x) (codes "axb")
  -- on the last line `$!N` is skipped, and on another it isn't
  pub last_line : Step append_unless_last (At (machine [] [])) Silent (At (record (machine [] []) { at = 1 }))
  pub not_applied : ¬ Step append_unless_last (At (machine [] [])) Silent Done
  pub other_line : ¬ Step append_unless_last (At (machine (codes "b" ∷ []) [])) Silent (At (record (machine (codes "b" ∷ []) []) { at = 1 }))
  -- the empty script on one line: the step that begins the run, and the one that ends it
  pub empty_script : Run (script_of []) (codes "b" ∷ []) ((Silent, At (begun (codes "b") [])) ∷ (Silent, Done) ∷ [])
  -- each match of x* in `ab` is replaced, the empty ones too, and none is directly after another
  pub substitutes : Substitutes (script_of []) (replacing any_xs (Text (codes "-") ∷ []) true) (codes "ab") (codes "-a-b-")
  -- where the file has no line left, `N` begins the next one that has a line, and where none has, it ends the run; `q` ends it in any case
  pub begins_file : StepIn any_locale 10 (script_of (plain_command NextAppend ∷ [])) (At (machine [] three_files)) Silent (At (begun (codes "b") last_file))
  -- where a file begins, the hold space may be emptied
  pub empties_hold : StepIn any_locale 10 (script_of (plain_command NextAppend ∷ [])) (At (record (machine [] three_files) { hold = codes "h" })) Silent (At (begun (codes "b") last_file))
  pub no_file : StepIn any_locale 10 (script_of (plain_command NextAppend ∷ [])) (At (machine [] ([] ∷ []))) Silent Done
  pub quits : StepIn any_locale 10 (script_of (plain_command Quit ∷ [])) (At (machine [] three_files)) Silent Done
  -- `$` is the last line of each file, so `$!N` is skipped there
  pub last_of_file : StepIn any_locale 10 append_unless_last (At (machine [] three_files)) Silent (At (record (machine [] three_files) { at = 1 }))
  pub no_other : ¬ StepIn any_locale 10 append_unless_last (At (machine [] three_files)) Silent (At (begun (codes "b") last_file))
  -- where lines end with a byte 0, `G` appends one
  pub appends_zero : StepIn any_locale 0 (script_of (plain_command GetAppend ∷ [])) (At (machine [] [])) Silent (At (record (machine [] []) { at = 1; pattern = 97 ∷ 0 ∷ [] }))
  -- the empty script on these files
  pub all_files : WideRun (script_of []) 10 three_files ((Silent, At (begun (codes "b") last_file)) ∷ (Silent, At (begun (codes "c") [])) ∷ (Silent, Done) ∷ [])
  -- `.` may be a character of two bytes
  pub one_character : SubstitutesIn WideMatch (script_of []) (replacing (Seq (Then Any Nil)) (Text (codes "e") ∷ []) false) (195 ∷ 169 ∷ []) (codes "e")
  -- whole characters may be there, also in a group that is repeated; no part of one may be repeated, or be there without the others, and
  -- none may be in a list of `y`
  pub byte_safe : IsByteSafe (replace_once accent []) × IsByteSafe (replace_once accent_repeated [])
  pub half_character : ¬ IsByteSafe (replace_once (Seq (Then (Byte 195) Nil)) [])
  pub repeats_byte : ¬ IsByteSafe (replace_once accent_byte_repeated [])
  pub replaces_byte : ¬ IsByteSafe (script_of (plain_command (Transliterate (195 ∷ 169 ∷ []) (codes "ee")) ∷ []))
