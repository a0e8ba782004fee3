-- The names that several of these proofs cite, passed on from one place.
pub use Rattle.std.proofs.Common.{◌≡◌, ℕ, ◌+◌, ◌*◌, ◌<◌, ◌≤◌, min, map, true, false, List, [], ◌∷◌, ◌++◌, refl, arith, zero, suc, Bool, filter, length, sym, ◌∙◌, None, inl, inr, ◌⊎◌, ap, subst, length-append, Option, ◌≢◌, take, drop, Global, IsTrue, Vec, nat_lt, ◌-◌}
pub use Rattle.std.proofs.Math.Nat.{mul-le-mul_right}
pub use Rattle.std.proofs.lemmas.Bool.Decides.{nat_tests}
pub use Rattle.std.proofs.lemmas.Bool.{false≢true}
pub use Rattle.std.proofs.lemmas.List.{take_more, append-nil, drop_more, get_or-replicate, take_all}
pub use Rattle.std.proofs.lemmas.Nat.Bits.{bit_at-zero, bit_at_above}
pub use Rattle.std.specs.Int.{bit_at}
pub use Rattle.std.specs.List.{list_any, range_with_len}
pub use Rattle.std.specs.Prelude.{unwrap_or, if◌then◌else◌, ◌||◌, All, Ok, Some, codes, ◌==◌}
pub use Rattle.sedck_bre.specs.Lengths.{cap, IsLeastSize, HasLength, IsLeastLength}
pub use Rattle.sedck_bre.specs.Match.{Groups, no_groups, text_of, unset, Match, MatchAll, Language, with_text, Times, IsWithin}
pub use Rattle.sedck_bre.specs.Private.Bounds.{Bounds, least, after, repeated, own, outside, no_bounds, with_bound, least_all, after_all, Holds, HasTopGroups, is_named, outside_picked, own_beside}
pub use Rattle.sedck_bre.specs.Rests.{is_top_group, names, texts_length, HasRest, IsLeastRest, is_group, is_item, NamesTopGroups}
pub use Rattle.sedck_bre.specs.WideMatch.{WideMatch, WideMatchAll}
pub use Rattle.sedck_expressions.proofs.NumberedGroups.{are_numbered, CountsFrom-left, CountsFrom-right, in_row, beside_row, is_in-neither, is_in-cases, is_in-left, is_in-right}
pub use Rattle.sedck_expressions.proofs.PartLemmas.{names_or, names_pow, names_zero}
pub use Rattle.sedck_expressions.proofs.ViewLemmas.{tree-Seq, tree-Group, tree-Repeat}
pub use Rattle.sedck_expressions.proofs.WholeReading.{fault_or_tree, none_of, one_tree, shape_of}
pub use Rattle.sedck_expressions.specs.Private.Numbering.{CountsFrom}
pub use Rattle.sedck_expressions.specs.Private.Sequence.{sequence}
pub use Rattle.sedck_expressions.specs.Tree.{Tree, trees, Trees, Seq, groups_in_all, is_in, Byte, Group, Ref, Repeat, Nil, Then, groups_in, Any, Set, Maybe, group_count}
pub use Rattle.sedck_expressions.specs.View.{tree, node_tree}
pub use Rattle.sedck_expressions.specs.WellFormed.{IsWellFormed, AllReferBack, AreBounds, AreSound, IsSound, RefersBack}
pub use Rattle.sedck_expressions.specs.declared.tree.Bre.{Bre, Bre-F, fold-roll-Bre, out-Bre, roll-Bre, roll-out-Bre}
