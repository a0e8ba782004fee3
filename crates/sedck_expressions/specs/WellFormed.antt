-- What holds of every expression apart from its spelling.
use Rattle.std.specs.Prelude.{◌≡◌, ◌≢◌, ℕ, ◌≤◌, Bool, List, [], ◌++◌, Option, Some, None, IsTrue}
use Rattle.std.specs.List.{range_with_len}
use Rattle.sedck_expressions.specs.Tree.{Tree, Trees, Set, Group, Ref, Seq, Repeat, Nil, Then, groups_in, is_in, group_count, depth, bytes_where}

abbrev mutual
  -- every reference goes to a group that is closed before it, where the groups listed are closed at the beginning
  pub RefersBack : List ℕ → Tree → Type 0
  RefersBack closed (Ref k) = IsTrue (is_in k closed)
  RefersBack closed (Group k body) = RefersBack closed body
  RefersBack closed (Seq ts) = AllReferBack closed ts
  RefersBack closed (Repeat body least most) = RefersBack closed body
  RefersBack closed _ = Unit {0}

  pub AllReferBack : List ℕ → Trees → Type 0
  AllReferBack closed Nil = Unit {0}
  AllReferBack closed (Then t ts) = RefersBack closed t × AllReferBack (closed ++ groups_in t) ts

-- a set has a byte, and its bytes are in order
abbrev pub IsByteSet : List ℕ → Type 0
IsByteSet bytes = (bytes ≢ []) × (test : ℕ → Bool) × (bytes ≡ bytes_where test)

-- the bounds of a repetition can be met
abbrev pub AreBounds : ℕ → Option ℕ → Type 0
AreBounds least None = least ≤ 255
AreBounds least (Some most) = (least ≤ most) × (most ≤ 255)

abbrev mutual
  -- no set is empty, and the bounds of each repetition can be met
  pub IsSound : Tree → Type 0
  IsSound (Set bytes) = IsByteSet bytes
  IsSound (Group k body) = IsSound body
  IsSound (Seq ts) = AreSound ts
  IsSound (Repeat body least most) = AreBounds least most × IsSound body
  IsSound _ = Unit {0}

  pub AreSound : Trees → Type 0
  AreSound Nil = Unit {0}
  AreSound (Then t ts) = IsSound t × AreSound ts

-- a well formed expression: at most 99 groups, at most 32 of them inside one another
pub record IsWellFormed (t : Tree) : Type 0 where
  -- groups are numbered from 1 by their opening
  pub numbered : groups_in t ≡ range_with_len 1 (group_count t)
  pub back : RefersBack [] t
  pub sound : IsSound t
  pub groups : group_count t ≤ 99
  pub nested : depth t ≤ 32
