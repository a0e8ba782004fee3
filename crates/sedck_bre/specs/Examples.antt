-- Worked examples of expressions: which texts spell which trees, which spell none, and what some of them match.
use Rattle.std.specs.Prelude.{◌++◌, ◌≡◌, ℕ, ◌≤◌, List, [], ◌∷◌, length, map, All, Some, None, codes}
use Rattle.sedck_text.specs.Bytes.{ascii}
use Rattle.sedck_expressions.specs.Tree.{Tree, Byte, Any, Set, Start, End, Maybe, Group, Ref, Seq, Repeat, trees}
use Rattle.sedck_bre.specs.Match.{no_groups, Match, Language}
use Rattle.sedck_bre.specs.WideMatch.{WideMatch}
use Rattle.sedck_expressions.specs.Shape.{Shape}
use Rattle.sedck_expressions.specs.FirstFault.{first_fault}
use Rattle.sedck_expressions.specs.declared.fault.ReFault.{ReFault}
use Rattle.sedck_expressions.specs.declared.fault.ReFault.TheVariants.{TrailingBackslash, BadEscape, UnclosedBracket, BadBracket, EmptySet, UnclosedGroup, UnopenedGroup, BadInterval, NothingToRepeat, DoubleRepeat, BadReference}

abbrev pub sequence_of : List Tree → Tree
sequence_of items = Seq (trees items)

-- the bytes of a text, one after another
abbrev pub text_tree : List ℕ → Tree
text_tree text = sequence_of (map Byte text)

abbrev pub star : Tree → Tree
star item = Repeat item 0 None

abbrev pub spelled_texts : List (List ℕ × Tree)
spelled_texts =
    -- the empty expression of a group or of a whole
    ([], sequence_of [])
    ∷ (codes "\\(\\)", sequence_of (Group 1 (sequence_of []) ∷ []))
    -- a `*` that is first, or directly after a `^` that is, is a byte
    ∷ (codes "*a", text_tree (codes "*a"))
    ∷ (codes "^*", sequence_of (Start ∷ Byte 42 ∷ []))
    ∷ (codes "a*", sequence_of (star (Byte (ascii "a")) ∷ []))
    -- anchors; elsewhere `^` and `$` are bytes, and at an edge of a group they may be either
    ∷ (codes "^a$", sequence_of (Start ∷ Byte (ascii "a") ∷ End ∷ []))
    ∷ (codes "$a^", text_tree (codes "$a^"))
    ∷ (codes "\\(^a\\)", sequence_of (Group 1 (sequence_of (Maybe (ascii "^") ∷ Byte (ascii "a") ∷ [])) ∷ []))
    -- groups are numbered by where they open
    ∷ (codes "\\(\\(.\\)\\2\\)*", sequence_of (star (Group 1 (sequence_of (Group 2 (sequence_of (Any ∷ [])) ∷ Ref 2 ∷ []))) ∷ []))
    -- intervals
    ∷ (
      codes "a\\{2\\}b\\{2,\\}c\\{0,3\\}",
      sequence_of (Repeat (Byte (ascii "a")) 2 (Some 2) ∷ Repeat (Byte (ascii "b")) 2 None ∷ Repeat (Byte (ascii "c")) 0 (Some 3) ∷ []),
    )
    -- `+`, `?`, `{` and bars have no meaning of their own
    ∷ (codes "a+?{|}()", text_tree (codes "a+?{|}()"))
    -- a `]` that is the first element of a list is a byte; so is a `-` that is the last
    ∷ (codes "[]x]", sequence_of (Set (codes "]x") ∷ []))
    ∷ (codes "[x-]", sequence_of (Set (codes "-x") ∷ []))
    -- a `[` is a byte of a list where no class or symbol begins, and a backslash before most bytes
    ∷ (codes "[][]", sequence_of (Set (codes "[]") ∷ []))
    ∷ (codes "[\\t]", sequence_of (Set (codes "\\t") ∷ []))
    ∷ []

-- texts that spell no tree, each with its first fault and the place of that
abbrev pub refused_texts : List (List ℕ × ReFault)
refused_texts =
    -- a GNU operator, a second sign of repetition, a reference to no group, and to one that isn't closed yet
    (codes "a\\+", BadEscape 1) ∷ (codes "a**", DoubleRepeat 2) ∷ (codes "\\(a\\)\\2", BadReference 5) ∷ (codes "\\(a\\1\\)", BadReference 3)
    -- what isn't closed, or isn't opened
    ∷ (codes "\\(a", UnclosedGroup 0) ∷ (codes "a\\)", UnopenedGroup 1) ∷ (codes "[a", UnclosedBracket 0) ∷ (codes "a\\", TrailingBackslash 1)
    -- an interval with its bounds in the wrong order, above 255, and of nothing
    ∷ (codes "a\\{2,1\\}", BadInterval 1) ∷ (codes "a\\{256\\}", BadInterval 1) ∷ (codes "\\{2\\}", NothingToRepeat 0)
    -- a range backwards, one of three bytes, a class that isn't one, and one as the end of a range
    ∷ (codes "[z-a]", BadBracket 1) ∷ (codes "[a-c-e]", BadBracket 4) ∷ (codes "[[:alfa:]]", BadBracket 1) ∷ (codes "[[:alpha:]-z]", BadBracket 1)
    -- a list of no byte
    ∷ (codes "[^" ++ 0 ∷ codes "-" ++ 255 ∷ codes "]", EmptySet 0)
    -- lists that seds read differently
    ∷ (codes "[[...]]", BadBracket 1) ∷ (codes "[[===]]", BadBracket 1) ∷ (codes "[\\c]", BadEscape 1) ∷ (codes "[a-\\x]", BadEscape 3)
    ∷ (codes "[[:alpha:][]", BadBracket 10) ∷ (codes "[[.a.][^]", BadBracket 6)
    -- of two faults the one that is met first: the sign before what follows it, the element before its list, and what is inside before its group
    ∷ (codes "a*\\{9", DoubleRepeat 2) ∷ (codes "[z-a", BadBracket 1) ∷ (codes "\\(a\\{", BadInterval 3) ∷ (codes "a\\+\\)", BadEscape 1)
    ∷ []

-- `\(ab\)\{2,3\}c*\1`
abbrev pub two_or_three : Tree
two_or_three = sequence_of (Repeat (Group 1 (text_tree (codes "ab"))) 2 (Some 3) ∷ star (Byte (ascii "c")) ∷ Ref 1 ∷ [])

-- `\(ab\)*\1`
abbrev pub any_number : Tree
any_number = sequence_of (star (Group 1 (text_tree (codes "ab"))) ∷ Ref 1 ∷ [])

-- `\(\(a\)*b\)*\2`
abbrev pub nested : Tree
nested = sequence_of (star (Group 1 (sequence_of (star (Group 2 (text_tree (codes "a"))) ∷ Byte (ascii "b") ∷ []))) ∷ Ref 2 ∷ [])

pub record ExamplesHold : Type 0 where
  pub spelled : All (λ example. Shape example.0 example.1) spelled_texts
  pub refused : All (λ example. (tree : Tree) → ¬ Shape example.0 tree) refused_texts
  pub first : All (λ example. first_fault example.0 ≡ Some example.1) refused_texts
  pub matches : Language two_or_three (codes "ababab")
  pub no_shorter : (text : List ℕ) → Language two_or_three text → 6 ≤ length text
  -- a group that took no part counts as the empty text
  pub took_no_part : Language any_number []
  -- after the second round of its group, `ab` and then `b`, the group inside has its text still, or none
  pub kept : Language nested (codes "abba")
  pub unset : Language nested (codes "abb")
  -- where a character may have two bytes, `.` matches both, and still not the empty text; a byte matches itself alone
  pub character : WideMatch Any no_groups (195 ∷ 169 ∷ []) no_groups
  pub no_character : ¬ Match Any no_groups (195 ∷ 169 ∷ []) no_groups
  pub no_text : ¬ WideMatch Any no_groups [] no_groups
  pub byte_alone : ¬ WideMatch (Byte 169) no_groups (195 ∷ 169 ∷ []) no_groups
