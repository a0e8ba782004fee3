-- The parts of a tree that the code looks for, found in one pass.
use Rattle.std.specs.Prelude.{ℕ, ◌+◌, ◌^◌, ◌==◌, nat_lt, sum_by, Bool, true, false, ◌&&◌, ◌||◌, if◌then◌else◌, bit_or, bit_and}
use Rattle.std.specs.Int.{bit_at}
use Rattle.std.specs.List.{list_any}
use Rattle.sedck_expressions.specs.Tree.{Tree, Trees, Byte, Any, Set, Start, End, Maybe, Group, Ref, Seq, Repeat, Nil, Then}
use Rattle.sedck_expressions.specs.Misjudged.{is_group, ends_in_anchor, nameable_groups}
use Rattle.sedck_expressions.specs.declared.parts.Parts.{Parts}

-- whether the bits name the group: bit k stands for group k
abbrev pub names : ℕ → ℕ → Bool
names bits k = bit_at bits k == 1

-- the bit of the group
abbrev pub bit : ℕ → ℕ
bit k = if nat_lt k 16 then 2 ^ k else 0

-- of what matches one byte
abbrev pub none : Parts
none = record {
  may_be_empty = false;
  has_reference = false;
  has_anchor = false;
  repeats_anchor = false;
  repeats_group = false;
  referenced = 0;
  twice = 0;
  repeated = 0;
  with_reference = 0;
  of_nothing = 0;
}

-- of what may match nothing
abbrev pub empty : Parts
empty = record none { may_be_empty = true }

-- one after another
abbrev pub and_then : Parts → Parts → Parts
and_then a b = record {
  may_be_empty = a.may_be_empty && b.may_be_empty;
  has_reference = a.has_reference || b.has_reference;
  has_anchor = a.has_anchor || b.has_anchor;
  repeats_anchor = a.repeats_anchor || b.repeats_anchor;
  repeats_group = a.repeats_group || b.repeats_group;
  referenced = bit_or a.referenced b.referenced;
  twice = bit_or (bit_or a.twice b.twice) (bit_and a.referenced b.referenced);
  repeated = bit_or a.repeated b.repeated;
  with_reference = bit_or a.with_reference b.with_reference;
  of_nothing = bit_or a.of_nothing b.of_nothing;
}

-- of a group, from those of what is in it
abbrev pub in_group : ℕ → Parts → Parts
in_group k p = record p {
  with_reference = bit_or p.with_reference (if p.has_reference then bit k else 0);
  of_nothing = bit_or p.of_nothing (if p.may_be_empty then bit k else 0);
}

-- of a repetition, from those of what is repeated, the bit of the reference that it is, and whether it is a group
abbrev pub repeated : ℕ → Bool → ℕ → Parts → Parts
repeated reference group least p = record p {
  may_be_empty = (least == 0) || p.may_be_empty;
  repeats_anchor = p.repeats_anchor || p.has_anchor;
  repeats_group = p.repeats_group || group;
  repeated = bit_or p.repeated reference;
}

abbrev pub own_reference : Tree → ℕ
own_reference (Ref k) = bit k
own_reference _ = 0

abbrev mutual
  pub parts_of : Tree → Parts
  parts_of (Byte b) = none
  parts_of Any = none
  parts_of (Set bytes) = none
  parts_of Start = empty
  parts_of End = empty
  parts_of (Maybe b) = record empty { has_anchor = true }
  parts_of (Group k body) = in_group k (parts_of body)
  parts_of (Ref k) = record empty { has_reference = true; referenced = bit k }
  parts_of (Seq ts) = parts_after empty ts
  parts_of (Repeat body least most) = repeated (own_reference body) (is_group body) least (parts_of body)

  -- the parts of trees, with these before them
  pub parts_after : Parts → Trees → Parts
  parts_after p Nil = p
  parts_after p (Then t ts) = parts_after (and_then p (parts_of t)) ts

-- a reference to the group is misjudged by what the group is
abbrev pub is_misjudged_by : Parts → ℕ → Bool
is_misjudged_by p k = names p.referenced k && (names p.with_reference k || (names p.repeated k && names p.of_nothing k))

-- how many references there are to the group, if it may match nothing; 2 stands for more
abbrev pub references_by : Parts → ℕ → ℕ
references_by p k = if names p.of_nothing k then bit_at p.referenced k + bit_at p.twice k else 0

-- a reference is misjudged in a tree with these parts
abbrev pub misjudges_reference : Tree → Parts → Bool
misjudges_reference t p =
    p.has_reference
    && (p.repeats_group || (list_any (is_misjudged_by p) nameable_groups || (ends_in_anchor t && nat_lt 1 (sum_by (references_by p) nameable_groups))))

-- an anchor is
abbrev pub misjudges_anchor : Parts → Bool
misjudges_anchor p = p.repeats_anchor || (p.has_reference && p.has_anchor)
