-- The names that several of these proofs cite, passed on from one place.
pub use Rattle.std.proofs.Common.{◌≡◌, ℕ, ◌+◌, ◌≤◌, Bool, true, false, List, [], ◌∷◌, ◌++◌, drop, Option, Some, inl, inr, refl, sym, ap, ◌∙◌, arith, append_assoc, rules, ◌≢◌, suc, zero, ◌*◌, ◌/◌, ◌%◌, ◌^◌, ◌<◌, length, None, IfSome, subst, length-append, cond, get_or, map, ◌-◌, min, take, Bor, Box, Global, Vec, add-one, get_or-set_other, get_or-set_same, replicate}
pub use Rattle.std.proofs.Math.Bool.{or-true, and-false, and-true, and_assoc, or-false, or_assoc, or_comm}
pub use Rattle.std.proofs.Math.ListN.{set}
pub use Rattle.std.proofs.Math.Seq.{drop-cons, take-append_seam}
pub use Rattle.std.proofs.lemmas.Bool.Decides.{nat_tests, Decides-eqb}
pub use Rattle.std.proofs.lemmas.Bool.{false≢true, and_parts, cases_eq, eqb-true, or_parts}
pub use Rattle.std.proofs.lemmas.List.Elements.{All-contains, All-from_recursion, Contains-append_right, Contains-get_or}
pub use Rattle.std.proofs.lemmas.List.Folds.{list_any-append}
pub use Rattle.std.proofs.lemmas.List.Sums.{AllPass-from_list_all, sum_by-cons}
pub use Rattle.std.proofs.lemmas.List.{drop-drop, append-nil, append_cancel_right, drop_all, drop_more, get_or-replicate, length-drop, map_push, take_rest}
pub use Rattle.std.proofs.lemmas.Nat.Bits.{bit_at-zero, bit_at_or, bit_at-lt, bit_at-pow_other, bit_at-pow_same, bit_at-trailing_zeros, bit_at_above, bit_at_and, bit_at_not, bit_at_ones, bit_at_ones_above}
pub use Rattle.std.proofs.lemmas.Option.{IfSome_then}
pub use Rattle.std.proofs.lemmas.Result.{err_from_is_err_and}
pub use Rattle.std.specs.Int.{bit_at, w64, trailing_zeros}
pub use Rattle.std.specs.List.{range_with_len, starts_with, list_all, list_any, AllByRecursion, prefix_len}
pub use Rattle.std.specs.Option.{ok_or}
pub use Rattle.std.specs.Prelude.{IsTrue, codes, ◌||◌, ◌&&◌, ◌⊎◌, not, nat_le, Contains, ◌==◌, slice_index, nat_eq, if◌then◌else◌, nat_lt, sum_by, bit_or, Result, Ok, Err, IfOk, MatchOption, bit_and, filter, option_and_then, unwrap_or}
pub use Rattle.std.specs.Str.Parse.{digits_value}
pub use Rattle.sedck_expressions.specs.BracketReading.{symbol_at, byte_at, ranges, no_range, class_from, one, range_or_one, element_at, elements_of, inside_at, inside_of, some_of, set_at, before_elements, clear_of, flaw_at, in_list, is_closed, last_dash_at, missing_end, mistaken, others, set_of, whole_class_at}
pub use Rattle.sedck_expressions.specs.Brackets.{classes, Element, One, Members, WritesByte, begins_range, WritesElement, is_bare, WritesElements, IsBracketList, is_mistakable, is_listed, is_from, in_element, IsInPlace, Range, has_symbol}
pub use Rattle.sedck_expressions.specs.Faults.{HasOneAt}
pub use Rattle.sedck_expressions.specs.FirstFault.{full, fault_in, placed}
pub use Rattle.sedck_expressions.specs.IntervalReading.{number_of, number_at, bounds_of, digits_at}
pub use Rattle.sedck_expressions.specs.Misjudged.{has_part, one_has_part, is_reference, is_anchor, repeats_anchor, has_misjudged_reference, is_misjudged, HasNoneSought, IsFirstAmong, IsFirstMisjudged, IsFirstSought, IsItemText, IsMisjudgedAt, all_may_be_empty, all_references_to, has_misjudged_anchor, is_end_last, is_group, is_group_of_nothing, is_group_with_reference, is_misjudged_group, is_reference_to, is_repeated_group, is_repeated_reference_to, may_be_empty, nameable_groups, references_to, references_to_nothing}
pub use Rattle.sedck_expressions.specs.Private.Along.{StopsAt}
pub use Rattle.sedck_expressions.specs.Private.BracketCode.{class_of, is_of, opening, IsFlawIn, Reads, behind_name, closed_name, element_of, signed}
pub use Rattle.sedck_expressions.specs.Private.FullReading.{free}
pub use Rattle.sedck_expressions.specs.Private.Gives.{ClosedIs, Gives, level_of, position_of}
pub use Rattle.sedck_expressions.specs.Private.Numbering.{CountsFrom}
pub use Rattle.sedck_expressions.specs.Private.Parts.{empty, parts_after, references_by, misjudges_reference, misjudges_anchor, and_then, bit, is_misjudged_by, names, none, own_reference, parts_of}
pub use Rattle.sedck_expressions.specs.Private.Sequence.{sequence}
pub use Rattle.sedck_expressions.specs.Private.Sets.{AreWords, HasJust, bit_of, has_no_word, HasBitsBelow}
pub use Rattle.sedck_expressions.specs.Reading.{begins_pair, ◌>>=◌, at_end, is_repeatable, atom, with_sign, Readers, whole, Lister, Stop, after_backslash, before_all, closed_by, escaped, group_at, more, plain, repeat_before, some_items, tree_before}
pub use Rattle.sedck_expressions.specs.Shape.{Level, Position, SpellsItems, SpellsCount, behind, is_empty, SpellsByte, SpellsItem, Inside, First, IsRepeatable, Whole, SpellsTree, SpellsList, Shape, IsNumber, Later}
pub use Rattle.sedck_expressions.specs.Tree.{Tree, Trees, Then, Nil, Seq, Group, Repeat, is_in, bytes_where, Byte, Set, trees, groups_in, Any, Start, End, Maybe, Ref, groups_in_all, depth}
pub use Rattle.sedck_expressions.specs.View.{tree, has_bit, node_tree}
pub use Rattle.sedck_expressions.specs.WellFormed.{IsWellFormed, AreBounds, AreSound, IsSound, RefersBack}
pub use Rattle.sedck_expressions.specs.declared.brackets.symbols.Flaw.{Flaw}
pub use Rattle.sedck_expressions.specs.declared.fault.ReFault.TheVariants.{BadBracket, BadInterval, BadReference, DoubleRepeat, EmptySet, NothingToRepeat, UnopenedGroup}
pub use Rattle.sedck_expressions.specs.declared.fault.ReFault.{ReFault}
pub use Rattle.sedck_expressions.specs.declared.judging.Sought.{Sought}
pub use Rattle.sedck_expressions.specs.declared.tree.Bre.TheVariants.{rolls-Any, rolls-Byte, rolls-Group, rolls-Ref, rolls-Repeat, rolls-Seq, rolls-Set}
pub use Rattle.sedck_expressions.specs.declared.tree.Bre.{Bre, Bre-F, fold-roll-Bre}
pub use Rattle.sedck_expressions.specs.declared.tree.ByteSet.{ByteSet}
pub use Prim.Native.String.{String}
pub use Rattle.sedck_text.specs.Classes.{is_digit, is_letter}
pub use Rattle.sedck_text.specs.Cursors.{unread}
pub use Rattle.sedck_text.specs.Runs.{Longest, IsEmptyOr}
pub use Rattle.sedck_text.specs.Text.{begins, one_of}
pub use Rattle.sedck_text.specs.declared.cursor.Cursor.{Cursor}
