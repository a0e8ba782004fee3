-- Which scripts say the same by characters as by bytes, where a byte above 127 is a part of a character (XBD 6.1: in each locale the characters of
-- the portable set have one byte). Ours, for UTF-8, where GNU sed, BusyBox and others match, repeat and replace whole characters.
use Rattle.std.specs.Prelude.{◌≡◌, ℕ, ◌-◌, ◌==◌, ◌&&◌, ◌||◌, ◌++◌, Bool, false, List, nat_lt, flat_map, if◌then◌else◌}
use Rattle.std.specs.List.{list_any}
use Rattle.sedck_expressions.specs.Tree.{Tree, Trees, Byte, Group, Seq, Repeat, Nil, Then}
use Rattle.sedck_commands.specs.Program.{Verb, Transliterate, Command, Program, address_patterns, verb_patterns, pattern_expressions}

-- no byte of the portable set
abbrev pub is_high : ℕ → Bool
is_high b = nat_lt 127 b

-- a byte of a character of UTF-8 that isn't its first one (RFC 3629)
abbrev pub goes_on : ℕ → Bool
goes_on b = is_high b && nat_lt b 192

-- how many of these follow a byte in its character
abbrev pub bytes_due : ℕ → ℕ
bytes_due b = if nat_lt b 192 then 0 else if nat_lt b 224 then 1 else if nat_lt b 240 then 2 else 3

-- how many are still due behind an item, where so many are before it
abbrev pub due_behind : Tree → ℕ → ℕ
due_behind (Byte b) due = if goes_on b then due - 1 else bytes_due b
due_behind _ due = 0

abbrev mutual
  -- a part of a character is there without the others, as in `é*`, which by characters repeats the whole of `é`, and here its last byte
  pub splits_character : Tree → Bool
  splits_character (Byte b) = is_high b
  splits_character (Group k body) = splits_character body
  splits_character (Seq ts) = one_splits ts 0
  splits_character (Repeat body least most) = splits_character body
  splits_character _ = false

  -- the same of a list of items, before which so many bytes are due
  pub one_splits : Trees → ℕ → Bool
  one_splits Nil due = nat_lt 0 due
  one_splits (Then t ts) due = is_cut t due || one_splits ts (due_behind t due)

  -- what is due isn't there, or the item splits a character
  pub is_cut : Tree → ℕ → Bool
  is_cut (Byte b) due = if goes_on b then due == 0 else nat_lt 0 due
  is_cut (Group k body) due = nat_lt 0 due || splits_character body
  is_cut (Seq ts) due = nat_lt 0 due || one_splits ts 0
  is_cut (Repeat body least most) due = nat_lt 0 due || splits_character body
  is_cut _ due = nat_lt 0 due

-- such a byte is in a list of `y`, which then has fewer characters than bytes
abbrev pub replaces_byte : Verb → Bool
replaces_byte (Transliterate from to) = list_any is_high from || list_any is_high to
replaces_byte _ = false

-- the expressions that a command gives, those of its addresses too
abbrev pub command_expressions : Command → List Tree
command_expressions c = flat_map pattern_expressions (address_patterns c.address ++ verb_patterns c.verb)

abbrev pub depends_on_characters : Command → Bool
depends_on_characters c = list_any splits_character (command_expressions c) || replaces_byte c.verb

-- none of the script's commands does
abbrev pub IsByteSafe : Program → Type 0
IsByteSafe p = list_any depends_on_characters p.commands ≡ false
