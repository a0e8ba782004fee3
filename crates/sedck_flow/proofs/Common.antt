-- The names that several of these proofs cite, passed on from one place.
pub use Rattle.std.proofs.Common.{◌≡◌, ℕ, zero, suc, ◌==◌, Bool, false, List, [], ◌∷◌, ◌++◌, refl, ap, sym, ◌∙◌, arith, ◌≢◌, inl, inr, true, length, subst, ◌⊎◌, map, Contains, ◌↔◌, IsTrue, ◌<◌, get_or, drop, ◌≤◌, length-append, ◌+◌, add-one, append-nil, append_assoc, le_antisymm, le_of_eq, le_trans, max, mul-le-mul_left, mul-le-mul_right, nat_lt, take, ◌*◌, ◌-◌}
pub use Rattle.std.proofs.lemmas.Bool.Decides.{nat_tests}
pub use Rattle.std.proofs.lemmas.Bool.{false≢true, cases_eq, and_from, cases_lt, cases_order, or_parts, true≢false}
pub use Rattle.std.proofs.lemmas.List.Elements.{All-contains, Contains-append_left, Contains-append_right, All-head, All-tail, Contains-append_cases}
pub use Rattle.std.proofs.lemmas.List.{length-map, get_or_default}
pub use Rattle.std.proofs.lemmas.Option.{none-some, slice_get-map, slice_get_within, get_or_from_slice_get, same_Some, slice_get_past, slice_get_read}
pub use Rattle.std.specs.List.{list_any}
pub use Rattle.std.specs.Prelude.{◌||◌, MatchBool, if◌then◌else◌, Option, Some, None, flat_map, option_map, slice_get, MatchOption, All, codes, option_to_list, ◌&&◌}
pub use Rattle.sedck_flow.specs.Characters.{CharacterMatch, CharacterMatchAll, IsOne, MatchesCharacter, is_character, is_tail}
pub use Rattle.sedck_flow.specs.Flow.{kind_index, ReadsLine, IsEarlier, ListsEdges, VerbEdge, node_past, CommandEdge, Flow, Shortens, NeverLengthens, HasKind, IsWholeAlone, AreRestsAtLeast, AreInOrder, AreRestsAbove, FlowFrom, MayApplyAt, MayNotSelectAt, MaySelectAt, MaySkipAt, ReadsOn}
pub use Rattle.sedck_flow.specs.Laws.{is_last, node_of, BeginsNextFile, FollowsEdge, IsTruthful, accents, two_accents}
pub use Rattle.sedck_flow.specs.Nodes.{with_last, start, next, with_flag, IsBefore, moved_to, node_count, node_index, nth_node}
pub use Rattle.sedck_flow.specs.Patterns.{StandsFor}
pub use Rattle.sedck_flow.specs.Private.EdgeList.{number, edge_to, Adds, AddsEdge, AddsLine, AreRising}
pub use Rattle.sedck_flow.specs.Private.Fits.{lines_left, Fits}
pub use Rattle.sedck_flow.specs.Private.Least.{IsFormed, HasFormed, IsLeastOfRests}
pub use Rattle.sedck_flow.specs.Run.{Files, State, Start, Event, Machine, At, Locale, Done, Silent, Reads, Writes, SubstituteStep, Does, StepPast, StepAt, StepIn, StepsIn, begin_file, BeginsFile, NextCycle, TakesLine, after_end, DropsFirstLine, ChangesText, onward, skip, IsPartner, MayBecome, Transliterates, MaySelect, MayNotSelect, state_after, posix, onward_with, HasEvent, KeptOrReset, NamesForReading, NamesForWriting, Step, file_event, has_address, is_conditional}
pub use Rattle.sedck_flow.specs.Substitutes.{Occurrence, replacement, matched, replaced, AreMatchesIn, SubstitutesIn, AreApart, part_text}
pub use Rattle.sedck_flow.specs.WideRun.{any_locale, WideTransliterates, all_lines, WideRun}
pub use Rattle.sedck_flow.specs.declared.graph.Edge.{Edge}
pub use Rattle.sedck_flow.specs.declared.graph.Kind.TheVariants.{Consume, Keep, Shorten, Grow}
pub use Rattle.sedck_flow.specs.declared.graph.Kind.{Kind}
pub use Rattle.sedck_flow.specs.declared.graph.Node.{Node}
pub use Rattle.sedck_bre.proofs.DifferentGroups.{least_rest_of, AreDifferentTopGroups, wide_rest_of}
pub use Rattle.sedck_bre.specs.Lengths.{IsLeastLength, IsLeastSize}
pub use Rattle.sedck_bre.specs.Match.{Groups, no_groups, Times, text_of, Match, Language, with_text}
pub use Rattle.sedck_bre.specs.Rests.{texts_length, IsLeastRest, HasRest, is_top_group}
pub use Rattle.sedck_bre.specs.WideMatch.{WideMatch, WideMatchAll}
pub use Rattle.sedck_commands.specs.Program.{Group, Pattern, Previous, Expression, Verb, Substitute, Transliterate, Command, Program, pattern_expressions, address_patterns, verb_patterns, patterns, expressions, Address, NoAddress, One, Two, Block, Change, Quit, Branch, Test, Part, Substitution, Read, Write, literal_length, Whole, Delete, DeleteFirstLine, Next, NextAppend, Text, Last, Context, Exchange, Get, GetAppend, Hold, HoldAppend, Group as Reference, Line, Newline, Place, Tab, part_length}
pub use Rattle.sedck_commands.specs.References.{HasNoWhole, named_groups, AreDistinct, AreTopGroups, KeepsGroups, IsLeastOutside, IsNotIn, IsOutside}
pub use Rattle.sedck_expressions.specs.Tree.{Byte, Tree, Any, Seq, Nil, Then, Repeat, Set, Trees}
pub use Rattle.sedck_expressions.specs.WellFormed.{IsWellFormed}
pub use Rattle.sedck_script.proofs.SortedNames.{Contains-cons_cases, Contains-cons_more}
pub use Rattle.sedck_script.specs.ByteSafe.{is_high, splits_character, IsByteSafe, bytes_due, command_expressions, depends_on_characters, goes_on, one_splits, replaces_byte}
pub use Rattle.sedck_script.specs.Invariant.{IsTargetWithin, AreTargetsWithin, AreWellFormed, IsReplacement, IsScript}
pub use Rattle.sedck_script.specs.View.{command_of, substitution_of, address_of, pattern_of, verb_of}
pub use Rattle.sedck_text.specs.Bytes.{newline}
