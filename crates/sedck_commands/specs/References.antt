-- Which groups a replacement keeps of a match, and how long the rest of a match is at least, this project's own. What a reference
-- stands for is said by POSIX.1-2024, XCU sed, the command s.
use Rattle.std.specs.Prelude.{◌≢◌, ℕ, IsTrue, List, [], ◌∷◌, Option, Some, None}
use Rattle.sedck_bre.specs.Lengths.{IsLeastSize}
use Rattle.sedck_bre.specs.Rests.{is_top_group, HasRest}
use Rattle.sedck_commands.specs.Program.{Pattern, Previous, Expression, Part, Whole, Group}

-- the replacement has no `&`
abbrev pub HasNoWhole : List Part → Type 0
HasNoWhole [] = Unit {0}
HasNoWhole (Whole ∷ parts) = ⊥
HasNoWhole (_ ∷ parts) = HasNoWhole parts

-- the groups that a replacement names, one for each reference
abbrev pub named_groups : List Part → List ℕ
named_groups [] = []
named_groups (Group k ∷ parts) = k ∷ named_groups parts
named_groups (_ ∷ parts) = named_groups parts

-- the number isn't one of these
abbrev pub IsNotIn : ℕ → List ℕ → Type 0
IsNotIn k [] = Unit {0}
IsNotIn k (j ∷ js) = (k ≢ j) × IsNotIn k js

-- no number is there twice
abbrev pub AreDistinct : List ℕ → Type 0
AreDistinct [] = Unit {0}
AreDistinct (k ∷ ks) = IsNotIn k ks × AreDistinct ks

-- the groups are items of the command's own expression, in no other group and not repeated; an empty expression has none
abbrev pub AreTopGroups : Pattern → List ℕ → Type 0
AreTopGroups pattern [] = Unit {0}
AreTopGroups Previous (k ∷ ks) = ⊥
AreTopGroups (Expression own) (k ∷ ks) = IsTrue (is_top_group own k) × AreTopGroups (Expression own) ks

-- The replacement puts its literal parts in the place of what lies outside of the groups that it names: it has no `&`, and the
-- groups are different items of the expression.
pub record KeepsGroups (pattern : Pattern) (parts : List Part) : Type 0 where
  pub no_whole : HasNoWhole parts
  pub distinct : AreDistinct (named_groups parts)
  pub top : AreTopGroups pattern (named_groups parts)

-- the least rest of a match outside of the groups, where the pattern is an expression
abbrev pub IsLeastOutside : Pattern → List ℕ → ℕ → Type 0
IsLeastOutside Previous groups n = Unit {0}
IsLeastOutside (Expression own) groups n = IsLeastSize (HasRest own groups) n

-- what a substitution knows of its matches: the least rest where its replacement keeps groups, and else that it keeps none
abbrev pub IsOutside : Pattern → List Part → Option ℕ → Type 0
IsOutside pattern parts None = ¬ KeepsGroups pattern parts
IsOutside pattern parts (Some n) = KeepsGroups pattern parts × IsLeastOutside pattern (named_groups parts) n
