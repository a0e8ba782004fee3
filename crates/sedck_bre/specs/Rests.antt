-- What of a match lies outside of some of its groups, this project's own.
use Rattle.std.specs.Prelude.{◌≡◌, ℕ, ◌+◌, ◌≤◌, Bool, false, IsTrue, List, [], ◌∷◌, filter, length, ◌==◌, ◌||◌}
use Rattle.std.specs.Int.{bit_at}
use Rattle.sedck_expressions.specs.Tree.{Tree, Trees, Group, Seq, Nil, Then}
use Rattle.sedck_bre.specs.Match.{Groups, Match, no_groups, text_of}

-- whether the tree is the group
abbrev pub is_group : ℕ → Tree → Bool
is_group k (Group j _) = j == k
is_group k _ = false

-- whether the group is one of the trees
abbrev pub is_item : ℕ → Trees → Bool
is_item k Nil = false
is_item k (Then t ts) = is_group k t || is_item k ts

-- whether the group is an item of the whole expression: in no other group, and not repeated
abbrev pub is_top_group : Tree → ℕ → Bool
is_top_group (Seq ts) k = is_item k ts
is_top_group _ k = false

-- whether the bits name the group: bit k stands for group k
abbrev pub names : ℕ → ℕ → Bool
names bits k = bit_at bits k == 1

-- the groups from 1 to 9 that the bits name
unfoldable pub named : ℕ → List ℕ
named bits = filter (names bits) (1 ∷ 2 ∷ 3 ∷ 4 ∷ 5 ∷ 6 ∷ 7 ∷ 8 ∷ 9 ∷ [])

-- each bit that is set names one of the groups 1 to 9 that is an item of the whole expression
abbrev pub NamesTopGroups : Tree → ℕ → Type 0
NamesTopGroups t bits = (k : ℕ) → IsTrue (names bits k) → ((1 ≤ k) × (k ≤ 9) × IsTrue (is_top_group t k))

-- how long the texts of these groups are together
abbrev pub texts_length : Groups → List ℕ → ℕ
texts_length e [] = 0
texts_length e (k ∷ ks) = length (text_of e k) + texts_length e ks

-- The rest of a match is n: the length of its text is n more than that of the texts of these groups.
abbrev pub IsRest : List ℕ → List ℕ → Groups → ℕ → Type 0
IsRest groups w e n = length w ≡ n + texts_length e groups

-- some match, where no group has a text at first, has this rest
abbrev pub HasRest : Tree → List ℕ → ℕ → Type 0
HasRest t groups n = (w : List ℕ) × (e : Groups) × Match t no_groups w e × IsRest groups w e n

-- the least rest of a match
pub record IsLeastRest (t : Tree) (groups : List ℕ) (n : ℕ) : Type 0 where
  -- each match has a rest, and none a smaller one
  pub floor : (w : List ℕ) (e : Groups) → Match t no_groups w e → (m : ℕ) × IsRest groups w e m × (n ≤ m)
  pub met : HasRest t groups n
