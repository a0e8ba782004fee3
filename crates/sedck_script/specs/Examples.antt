-- Worked examples of scripts: what some texts spell, part by part.
use Rattle.std.specs.Prelude.{◌≡◌, ℕ, true, false, List, [], ◌∷◌, Some, codes}
use Rattle.sedck_text.specs.Bytes.{newline, carriage_return, backslash, ascii}
use Rattle.sedck_commands.specs.Program.{Verb, NoAddress, One, Last, Part, Text, Whole, Newline, Label, Branch, Block, NextAppend, Print, Command}
use Rattle.sedck_commands.specs.Parts.{DelimitedExpression, ExpressionText, DelimitedList, FirstList, Replacement, EscapedPart, GivenText}
use Rattle.sedck_commands.specs.Items.{WrittenVerb, Known, JumpTo, Opening, Item, Written, Closing, VerbText, Items}
use Rattle.sedck_commands.specs.ReadAlike.{HasNoInnerReturn}
use Rattle.sedck_script.specs.Resolution.{Resolves}
use Rattle.sedck_commands.specs.Locations.{locations_of}
use Rattle.sedck_commands.specs.declared.location.Location.{Location}

-- a command without addresses, as it is written and as it is resolved
abbrev pub plain_item : WrittenVerb → Item
plain_item verb = Written NoAddress false verb

abbrev pub plain_command : Verb → Command
plain_command verb = record { address = NoAddress; negated = false; verb = verb }

-- `:a;N;b a`
abbrev pub join_items : List Item
join_items = plain_item (Known (Label (codes "a"))) ∷ plain_item (Known NextAppend) ∷ plain_item (JumpTo false (Some (codes "a")) false) ∷ []

abbrev pub join_commands : List Command
join_commands = plain_command (Label (codes "a")) ∷ plain_command NextAppend ∷ plain_command (Branch 0) ∷ []

-- `$!{p}`
abbrev pub block_items : List Item
block_items = Written (One Last) true Opening ∷ plain_item (Known Print) ∷ Closing ∷ []

abbrev pub block_commands : List Command
block_commands = record { address = One Last; negated = true; verb = Block 2 } ∷ plain_command Print ∷ []

-- where a command is: its start, its verb and its end
abbrev pub at : ℕ → ℕ → ℕ → Location
at start verb end = record { start = start; verb = verb; end = end }

pub record ExamplesHold : Type 0 where
  pub join : Items (codes ":a;N;b a") join_items
  -- a command ends before its `;`
  pub join_stands : locations_of 8 join ≡ at 0 0 2 ∷ at 3 3 4 ∷ at 5 5 8 ∷ []
  -- the branch leads to the label's command
  pub join_leads : Resolves join_commands [] 0 join_items join_commands
  -- a `}` may follow a command at once
  pub block : Items (codes "$!{p}") block_items
  -- a command starts with its addresses, and a `{` ends at once
  pub block_stands : locations_of 5 block ≡ at 0 2 3 ∷ at 3 3 4 ∷ []
  -- the block's target is the place after its `}`
  pub block_leads : Resolves block_commands [] 0 block_items block_commands
  -- the expression `a/b` after `s/`, written `a\/b`
  pub escaped_slash : DelimitedExpression (ascii "/") (codes "a\\/b/x/") (codes "a/b") (codes "x/")
  -- where a bar is the delimiter, none can be written in the expression
  pub no_escaped_bar : (expression rest : List ℕ) → ¬ DelimitedExpression 124 (codes "a\\|b|c|") expression rest
  -- the expression `axb` after `sx`, written `a\xb`
  pub escaped_x : ExpressionText (ascii "x") (codes "a\\xbxyx") (codes "axb") (codes "yx")
  -- where the expression has a `[`, no `\x` can be written in it
  pub no_escaped_x : (expression rest : List ℕ) → ¬ ExpressionText (ascii "x") (codes "[\\xa]xyx") expression rest
  -- the first list of `y/[a]/bcd/`; in that of `y/[]/ab/` a bracket list is left open
  pub closed_list : FirstList (ascii "/") (codes "[a]/bcd/") (codes "[a]") (codes "bcd/")
  pub no_open_list : (bytes rest : List ℕ) → ¬ FirstList (ascii "/") (codes "[]/ab/") bytes rest
  -- `t #` has no label, and no comment may be there
  pub no_comment_for_a_label : (verb : WrittenVerb) (rest : List ℕ) → ¬ VerbText (codes "t #") verb rest
  -- a carriage return may end a comment's line, and may not be inside of it
  pub return_last : HasNoInnerReturn (97 ∷ carriage_return ∷ [])
  pub return_inside : ¬ HasNoInnerReturn (97 ∷ carriage_return ∷ 98 ∷ [])
  -- the second list of `y/abc/\n\\\//` is a newline, a backslash and a slash
  pub list_escapes : DelimitedList (ascii "/") (codes "\\n\\\\\\//") (newline ∷ backslash ∷ ascii "/" ∷ []) []
  -- the replacement `x&\n` has three parts
  pub parts : Replacement (ascii "/") (codes "x&\\n/") (Text (codes "x") ∷ Whole ∷ Newline ∷ []) []
  -- `\U` is no part of a replacement
  pub no_case_conversion : (part : Part) → ¬ EscapedPart 85 part
  -- a backslash and a blank alone are no text of `a`, `c` or `i`
  pub no_text : (bytes rest : List ℕ) → ¬ GivenText (codes "\\ ") bytes rest
