-- The names that several of these proofs cite, passed on from one place.
pub use Rattle.std.proofs.Common.{◌≡◌, ℕ, ◌<◌, Bool, true, false, Option, Some, None, List, [], ◌∷◌, ◌++◌, length, take, refl, ap, sym, subst, length-append, arith, zero, suc, not, ◌∙◌, inl, inr, ◌+◌, cond, Contains, map, get_or, ap₂, append-nil, ◌↔◌, ◌≤◌, reverse, append_assoc, bytes_eq, drop, eqb, min, subst₂, take-append-drop, ◌||◌, ◌≢◌, ◌⊎◌}
pub use Rattle.std.proofs.Math.Seq.{drop-append_seam, get_or-append_seam, split_at}
pub use Rattle.std.proofs.lemmas.Bool.{false≢true, and_from, and_parts, both_ways, cases_lt, eq-eqb, eqb-true, not-true, or_cases, or_left, or_right}
pub use Rattle.std.proofs.lemmas.Cmp.{nat_list_cmp_total, tied_itself}
pub use Rattle.std.proofs.lemmas.List.Concat.{flat_map-append}
pub use Rattle.std.proofs.lemmas.List.Elements.{All-from_recursion, All-contains, Contains-append_left, Contains-append_right, All-contains_itself, Contains-append_cases, recursion_from_All}
pub use Rattle.std.proofs.lemmas.List.Kept.{AllPairs-cons, Contains-dedup, Contains-from_dedup, IsStrictlySortedBy-dedup}
pub use Rattle.std.proofs.lemmas.List.Sums.{AllPass-from_list_all, sum_by-append, sum_by-cons}
pub use Rattle.std.proofs.lemmas.List.{map_more, length-map, map_push, drop-drop, get_or-take, length-reverse, length-take-le, map-append, nil_from_length, reverse-append}
pub use Rattle.std.proofs.lemmas.Option.{get_or_from_slice_get, slice_get-get_or, slice_get-map, slice_get_within}
pub use Rattle.std.specs.Borrow.{Bor}
pub use Rattle.std.specs.Cmp.Lexicographic.{slice_cmp, nat_list_eq_equiv, on_texts, same_text, texts_ties}
pub use Rattle.std.specs.HashMap.{HashMap}
pub use Rattle.std.specs.List.{list_all, AllByRecursion, dedup, dedup_from, list_any, prefix_len}
pub use Rattle.std.specs.Option.{is_some, option_map, unwrap_or}
pub use Rattle.std.specs.Ordering.{nat_cmp, is_eq, ordering_reverse}
pub use Rattle.std.specs.Prelude.{IsTrue, All, flat_map, codes, if◌then◌else◌, option_to_list, slice_get, sum_by, ◌-◌, ◌==◌}
pub use Rattle.std.specs.declared.cmp.Ordering.TheVariants.{Less, Equal, Greater}
pub use Rattle.std.specs.declared.cmp.Ordering.{Ordering}
pub use Rattle.sedck_script.specs.FirstFault.{AreJumpsDefined, HasItems, IsFirstFault, JumpsTo, LinksFault}
pub use Rattle.sedck_script.specs.Invariant.{IsReplacement, AreTargetsWithin, AreWellFormed, IsScript, IsTargetWithin, IsTransliteration}
pub use Rattle.sedck_script.specs.Names.{IsBefore, sorted_names, IsName, names_size, read_names, write_names, placed, with_name, AreIncreasing, AreNames, accessed}
pub use Rattle.sedck_script.specs.Private.ExpressionReading.{has_some, IsLeastOf, lesser}
pub use Rattle.sedck_script.specs.Private.NameReading.{all_accessed}
pub use Rattle.sedck_script.specs.Private.Resolving.{item_label, IsKnownLabel, IsFirstLost, TakesTarget, label_of, resolved_verb, target_of}
pub use Rattle.sedck_script.specs.Resolution.{Resolves, Defines, AreLabelsDistinct, done, known, jump, opening, closing, ResolvesIn, LeadsTo}
pub use Rattle.sedck_script.specs.Shortest.{SomeHasLength}
pub use Rattle.sedck_script.specs.Spelling.{Spells, IsQuiet, AreCommands, SpellsIn, IsReadAs, IsScriptText}
pub use Rattle.sedck_script.specs.View.{command_of}
pub use Rattle.sedck_script.specs.declared.script.Command.{Command as Coded}
pub use Rattle.sedck_bre.specs.Lengths.{IsLeastSize, HasLength, cap}
pub use Rattle.sedck_commands.proofs.CommandLemmas.{address_tail}
pub use Rattle.sedck_commands.proofs.FaultRefuses.{fault_refuses}
pub use Rattle.sedck_commands.proofs.FirstBytes.{heads, tails}
pub use Rattle.sedck_commands.proofs.OffsetLemmas.{tail_cut, tail_tail, tail_behind, tail_length, ends_tail, verb_text_tail, expression_tail, number_tail, replacement_tail}
pub use Rattle.sedck_commands.proofs.OneFaultAddresses.{all_addresses, are_addresses_one, second_one}
pub use Rattle.sedck_commands.proofs.OneFaultEnds.{at_one}
pub use Rattle.sedck_commands.proofs.ReplacementParts.{flags_leave, replacement_parts, replacement_size}
pub use Rattle.sedck_commands.proofs.ResultLemmas.{if_err_more, if_err_from, if_ok_more}
pub use Rattle.sedck_commands.proofs.UniqueAddresses.{no_place, place_tail}
pub use Rattle.sedck_commands.proofs.UniqueItems.{items_one, command_one, empty_is_not, longest_along, no_command_end, no_command_other, place_begins, place_class, place_one}
pub use Rattle.sedck_commands.proofs.UniqueParts.{ends_one, expression_one, pattern_one, run_first}
pub use Rattle.sedck_commands.specs.Blocks.{Turned, Nests, Closes, Jumps, Opens, Stays, Turn, turn_of, verb_turn}
pub use Rattle.sedck_commands.specs.Cuts.{is_blank, is_separator, is_ending, IsEmptyOr, is_newline, Longest, is_delimiter, is_label_byte}
pub use Rattle.sedck_commands.specs.Faults.{IsEmptyExpression, IsFirstZero, IsLabelBehind, IsOfText, IsPlaced, StandsAt}
pub use Rattle.sedck_commands.specs.FirstFaults.{AreAddresses, BeginsAt, BeginsNoAddress, EmptyEnds, EmptyPlace, EmptyVerb, ItemsFault, LabelBeginsAt}
pub use Rattle.sedck_commands.specs.ItemView.{item_of, locations_in}
pub use Rattle.sedck_commands.specs.Items.{WrittenVerb, Item, Written, Closing, VerbText, Takes, IsNoComment, Items, Known, Simple, CommandText, IsNoBrace, JumpTo, Opening}
pub use Rattle.sedck_commands.specs.Labels.{commands_among, label_place, HasLabels, AreLabelsOnce, IsLabelOf}
pub use Rattle.sedck_commands.specs.Locations.{AreInOrder, location_of, locations_of}
pub use Rattle.sedck_commands.specs.Narrowings.{Narrowings, nothing_asked}
pub use Rattle.sedck_commands.specs.Parts.{Ends, AddressText, DelimitedExpression, EscapedPart, ExpressionText, FirstList, GivenText, IsPart, IsPatternIn, LabelText, PlaceText, is_plain}
pub use Rattle.sedck_commands.specs.Private.Alike.{Flags, IsPattern, Name}
pub use Rattle.sedck_commands.specs.Private.Reading.{EndsIn}
pub use Rattle.sedck_commands.specs.Program.{Address, Part, NoAddress, Program, Command, Label, Branch, Test, Pattern, Previous, Expression, address_patterns, verb_patterns, patterns, expressions, pattern_expressions, Verb, place_patterns, Block, Context, Place}
pub use Rattle.sedck_commands.specs.ReadAlike.{HasNoInnerReturn, MayBeBraced, begins_braced_comment, is_misread, read_alike}
pub use Rattle.sedck_commands.specs.ReadItems.{has_previous, item_patterns, AddressEmpty, CommandEmpty, EmptyOf, IsFirstEmpty, IsItemAt, patterns_of, written_patterns}
pub use Rattle.sedck_commands.specs.View.{verb_of, address_of, pattern_of, place_of}
pub use Rattle.sedck_commands.specs.declared.fault.ScriptFault.TheVariants.{NoPreviousExpression, NulByte, OutOfMemory, UnknownLabel}
pub use Rattle.sedck_commands.specs.declared.fault.ScriptFault.{ScriptFault}
pub use Rattle.sedck_commands.specs.declared.items.WrittenItem.{WrittenItem}
pub use Rattle.sedck_commands.specs.declared.location.Location.{Location}
pub use Rattle.sedck_expressions.specs.Tree.{Tree}
pub use Rattle.sedck_text.proofs.Runs.{longest_cut, longest_one}
pub use Rattle.sedck_text.specs.Classes.{is_mark}
pub use Rattle.sedck_text.specs.Text.{begins, one_of}
