-- The grammar of basic regular expressions: which text spells which tree (XBD 9.3). "Ours" marks what the standard leaves open
-- or undefined.
use Rattle.std.specs.Prelude.{◌≡◌, ◌≢◌, ℕ, ◌+◌, ◌≤◌, Bool, true, false, not, IsTrue, if◌then◌else◌, List, [], ◌∷◌, ◌++◌, length, Option, Some, None, codes, ◌⊎◌}
use Rattle.std.specs.List.{list_all, range_with_len}
use Rattle.sedck_text.specs.Bytes.{tab, newline, ascii}
use Rattle.std.specs.Str.Parse.{digits_value}
use Rattle.sedck_text.specs.Text.{is_in, one_of}
use Rattle.sedck_text.specs.Classes.{is_digit}
use Rattle.sedck_expressions.specs.Tree.{Tree, Trees, Byte, Any, Set, Start, End, Maybe, Group, Ref, Seq, Repeat, Nil, Then, groups_in}
use Rattle.sedck_expressions.specs.Brackets.{IsBracketList}
use Rattle.sedck_expressions.specs.WellFormed.{IsWellFormed}

-- a list of items is the whole expression or the inside of a group
pub data Level : Type 0 where
  Whole : Level
  Inside : Level

-- where an item is in its list: first, directly after a `^` that is first, or later
pub data Position : Type 0 where
  First : Position
  Anchored : Position
  Later : Position

abbrev pub is_first : Position → Bool
is_first First = true
is_first _ = false

abbrev pub is_later : Position → Bool
is_later Later = true
is_later _ = false

abbrev pub is_empty : List ℕ → Bool
is_empty [] = true
is_empty (_ ∷ _) = false

-- the position after an item
abbrev pub behind : Position → Tree → Position
behind First Start = Anchored
behind First (Maybe _) = Anchored
behind _ _ = Later

-- a byte that stands for itself at the position, before the rest of its list
abbrev pub is_itself : Position → ℕ → List ℕ → Bool
is_itself position c rest =
    if one_of ".[\\" c then false
    else if one_of "*" c then not (is_later position)
    else if one_of "^" c then not (is_first position)
    else if one_of "$" c then not (is_empty rest)
    else true

-- a backslash takes the special meaning of these bytes away
abbrev pub standard_escapes : List ℕ
standard_escapes = codes ".[\\*^$"

-- these have none outside of a bracket list, and may have a backslash before them all the same (ours)
abbrev pub our_escapes : List ℕ
our_escapes = codes "]/-\"&,;:!@#%=~_ "

-- The text writes the byte c: itself, escaped, a newline (XCU sed, "Regular Expressions in sed") or a tab (ours).
abbrev pub SpellsByte : Position → List ℕ → List ℕ → ℕ → Type 0
SpellsByte position text rest c =
    ((text ≡ c ∷ []) × IsTrue (is_itself position c rest))
    ⊎ (((text ≡ codes "\\" ++ c ∷ []) × IsTrue (is_in c (standard_escapes ++ our_escapes)))
    ⊎ (((text ≡ codes "\\n") × (c ≡ newline)) ⊎ ((text ≡ codes "\\t") × (c ≡ tab))))

-- the digits write the number, which is at most 255, the least RE_DUP_MAX that POSIX allows; leading zeros are ours
abbrev pub IsNumber : List ℕ → ℕ → Type 0
IsNumber digits n = (digits ≢ []) × IsTrue (list_all is_digit digits) × (n ≡ digits_value 10 digits) × (n ≤ 255)

-- `*`, `\{m\}`, `\{m,\}` or `\{m,n\}`
abbrev pub SpellsCount : List ℕ → ℕ → Option ℕ → Type 0
SpellsCount text least None =
    ((text ≡ codes "*") × (least ≡ 0))
    ⊎ ((m : List ℕ) × IsNumber m least × (text ≡ codes "\\{" ++ m ++ codes ",\\}"))
SpellsCount text least (Some most) =
    ((m : List ℕ) × IsNumber m least × (most ≡ least) × (text ≡ codes "\\{" ++ m ++ codes "\\}"))
    ⊎ ((m n : List ℕ) × IsNumber m least × IsNumber n most × (least ≤ most) × (text ≡ codes "\\{" ++ m ++ codes "," ++ n ++ codes "\\}"))

-- what a sign of repetition may follow
abbrev pub IsRepeatable : Tree → Type 0
IsRepeatable (Byte _) = Unit {0}
IsRepeatable Any = Unit {0}
IsRepeatable (Set _) = Unit {0}
IsRepeatable (Group _ _) = Unit {0}
IsRepeatable (Ref _) = Unit {0}
IsRepeatable _ = ⊥

abbrev mutual
  -- The text spells one item, at this position of its list and with the rest of the list after it.
  pub SpellsItem : Level → Position → List ℕ → List ℕ → Tree → Type 0
  SpellsItem level position text rest (Byte c) = SpellsByte position text rest c
  SpellsItem level position text rest Any = text ≡ codes "."
  SpellsItem level position text rest (Set bytes) = IsBracketList text bytes × (bytes ≢ [])
  SpellsItem level position text rest Start = (level ≡ Whole) × (position ≡ First) × (text ≡ codes "^")
  SpellsItem level position text rest End = (level ≡ Whole) × (rest ≡ []) × (text ≡ codes "$")
  SpellsItem level position text rest (Maybe c) =
      (level ≡ Inside) × (text ≡ c ∷ []) × (((position ≡ First) × (c ≡ ascii "^")) ⊎ ((rest ≡ []) × (c ≡ ascii "$")))
  SpellsItem level position text rest (Group k body) =
      (inside : List ℕ) × (text ≡ codes "\\(" ++ inside ++ codes "\\)") × SpellsList Inside inside body
  SpellsItem level position text rest (Ref k) = (1 ≤ k) × (k ≤ 9) × (text ≡ codes "\\" ++ (48 + k) ∷ [])
  SpellsItem level position text rest (Repeat body least most) =
      (u v : List ℕ) × (text ≡ u ++ v) × IsRepeatable body × SpellsItem level position u (v ++ rest) body × SpellsCount v least most
  SpellsItem level position text rest (Seq ts) = ⊥

  -- the text spells the items, one after another, from this position on
  pub SpellsItems : Level → Position → List ℕ → Trees → Type 0
  SpellsItems level position text Nil = text ≡ []
  SpellsItems level position text (Then t ts) =
      (u v : List ℕ) × (text ≡ u ++ v) × SpellsItem level position u v t × SpellsItems level (behind position t) v ts

  -- the text spells a whole list of items
  pub SpellsList : Level → List ℕ → Tree → Type 0
  SpellsList level text (Seq ts) = SpellsItems level First text ts
  SpellsList level text _ = ⊥

-- the text spells the tree, whose groups are numbered from 1 by their opening
abbrev pub SpellsTree : List ℕ → Tree → Type 0
SpellsTree text t = SpellsList Whole text t × (groups_in t ≡ range_with_len 1 (length (groups_in t)))

-- the text spells the tree, which is well formed
abbrev pub Shape : List ℕ → Tree → Type 0
Shape text t = SpellsList Whole text t × IsWellFormed t
