-- The names that several of these proofs cite, passed on from one place.
pub use Rattle.std.proofs.Common.{◌≡◌, ◌≢◌, ℕ, List, ◌∷◌, refl, ap, sym, ◌∙◌, subst, subst₂, arith, ◌+◌, ◌<◌, ◌≤◌, ◌-◌, [], ◌++◌, length, take, drop, append_assoc, length-append, false, Bool, ◌||◌, eqb, Option, Some, None, suc, true, inl, inr, get_or, zero, not, is_some, cond, ◌⊎◌, map, append-nil, ◌*◌, ◌^◌, min, Err, Ok, Result, add-one, decimal, rules, ◌&&◌}
pub use Rattle.std.proofs.Math.Bool.{or-false, or-true, or_assoc}
pub use Rattle.std.proofs.Math.Seq.{split_at, get_or-append_seam}
pub use Rattle.std.proofs.lemmas.Bool.Decides.{eqb_tells, nat_tests}
pub use Rattle.std.proofs.lemmas.Bool.{both_ways, not-true, eqb-true, eq-eqb, and_from, false≢true, or_from, false_from_ne_true, not_from_false, and_parts, or_left, cases_order, cond_both, ne_eqb, or_cases, or_parts, or_right}
pub use Rattle.std.proofs.lemmas.List.Elements.{All-push, All-from_recursion, All-get_or, All-nil, All-pop, Contains-append_cases, Contains-append_right, recursion_from_All}
pub use Rattle.std.proofs.lemmas.List.{nil_from_length, length-drop, drop-drop, get_or-map, length-map, map_push, append_cancel_left, append_cancel_right, drop_more, get_or-take, length-take, length-take-le, take_more}
pub use Rattle.std.proofs.lemmas.Option.{slice_get_within}
pub use Rattle.std.specs.Borrow.{Bor}
pub use Rattle.std.specs.Cow.{cow_slice_items}
pub use Rattle.std.specs.HashMap.{HashMap}
pub use Rattle.std.specs.List.{list_any, list_all, All, AllByRecursion, Contains}
pub use Rattle.std.specs.Option.{option_or}
pub use Rattle.std.specs.Prelude.{IsTrue, slice_get, codes, ◌==◌, IfSome, IfErr, IfNone, IfOk, IsErrAnd, MatchOption, if◌then◌else◌, option_copied, unwrap_or}
pub use Rattle.std.specs.Str.Parse.{digits_value}
pub use Rattle.sedck_commands.specs.Blocks.{Turn, Opens, Closes, Stays, Jumps, verb_turn, Nests, Turned, turn_of}
pub use Rattle.sedck_commands.specs.BracketLists.{BracketBegins, BracketList, BracketsClose}
pub use Rattle.sedck_commands.specs.Cuts.{is_delimiter, Longest, is_blank, is_ending, IsEmptyOr, is_digit, is_separator, is_label_byte, is_continued, is_newline, is_letter}
pub use Rattle.sedck_commands.specs.FaultWords.{fault_place, fault_words}
pub use Rattle.sedck_commands.specs.Faults.{StandsAt, StandsWhere, is_extra, EndsOrFails, begins_address, verb_bytes, IsPlaced, BeginsCommand, FollowsByte, FollowsLabel, IsMisjudged, IsNoExpression, IsOfText, begins_part}
pub use Rattle.sedck_commands.specs.FirstFaults.{AddressFault, AreAddresses, BeginsAt, BeginsNoAddress, CheckFault, CommandFault, CommentFault, CutFault, Defines, DefinitionFault, EmptyPlace, EmptyVerb, EndFault, EndFlagsFault, ExpressionTextFault, FirstListFault, FlagsFault, HasNoDelimiter, IsAfterComma, IsLabelAt, IsPartWithin, ItemsFault, JumpFault, LabelFault, ListFault, MayGoOn, NameFault, NotesBlock, PatternFault, PieceFault, PlaceFault, ReplacementFault, SubstitutionFault, TextFault, TransliterationFault, VerbFault, begins_flag, ends_label, is_none, is_two, takes}
pub use Rattle.sedck_commands.specs.ItemView.{item_of, locations_in, written_verb}
pub use Rattle.sedck_commands.specs.Items.{WrittenVerb, VerbText, Takes, CommandText, IsNoBrace, Known, Item, Written, Items, VerbTextIn, CommandTextIn, ItemsIn, Simple, JumpTo, Opening, Closing, IsNoComment, append, change, insert, label, opening, read, simple, write}
pub use Rattle.sedck_commands.specs.Labels.{HasLabels, label_place, commands_among, AreLabelsOnce, IsLabelOf}
pub use Rattle.sedck_commands.specs.Locations.{location_of, locations_of, AreInOrder}
pub use Rattle.sedck_commands.specs.Narrowings.{Narrowings, Matched, nothing_asked}
pub use Rattle.sedck_commands.specs.Parts.{Number, PlaceText, DelimitedList, FirstList, Ends, AddressText, DelimitedExpression, ExpressionText, LabelText, ExpressionTextIn, IsPatternIn, NameIn, FlagsIn, PlaceTextIn, AddressTextIn, Lines, GivenText, Replacement, previous, expression, IsPart, EscapedPart, is_plain, line, HasGroups, greatest_group, group, none, one, other, tabulator, two}
pub use Rattle.sedck_commands.specs.Private.Alike.{Name, Flags, IsExpression, IsPattern, EndsJump}
pub use Rattle.sedck_commands.specs.Private.Forms.{text_byte, file_byte, jump_byte, IsForm}
pub use Rattle.sedck_commands.specs.Private.Keeping.{kept_from, kept_with, may_keep}
pub use Rattle.sedck_commands.specs.Private.LabelReading.{BranchText}
pub use Rattle.sedck_commands.specs.Private.PieceReading.{IsFirstEscape, as_written, IsPiece, IsReadUpTo, IsWrittenUpTo, list_escape, PatternText, escaped}
pub use Rattle.sedck_commands.specs.Private.Progress.{IsProgress, NotesLabel, IsFront}
pub use Rattle.sedck_commands.specs.Private.Reading.{EndsIn, EndsFlags}
pub use Rattle.sedck_commands.specs.Private.ReplacementReading.{HasGroupsUpTo, IsFirstPart}
pub use Rattle.sedck_commands.specs.Private.VerbReading.{is_braced, AreLists, HasLabel, IsBracedAt, IsFreshIn}
pub use Rattle.sedck_commands.specs.Program.{Place, Pattern, Previous, Expression, Address, Part, Substitution, NoAddress, Label, part_length, literal_length, Verb, place_patterns, Whole, Group, Text, One, Two, Substitute, Transliterate, Change, Context, Insert, Last, Line, address_patterns, verb_patterns}
pub use Rattle.sedck_commands.specs.ReadAlike.{HasNoInnerReturn, is_misread, begins_braced_comment, MayBeBraced, has_loose_quote, read_alike}
pub use Rattle.sedck_commands.specs.ReadItems.{has_previous, written_patterns, patterns_of, item_patterns, IsItemAt, AddressEmpty, CommandEmpty, EmptyOf, IsFirstEmpty, IsJumpIn}
pub use Rattle.sedck_commands.specs.References.{named_groups, KeepsGroups, AreDistinct, AreTopGroups, HasNoWhole, IsLeastOutside, IsNotIn, IsOutside}
pub use Rattle.sedck_commands.specs.View.{part_of, address_of, pattern_of, place_of, verb_of}
pub use Rattle.sedck_commands.specs.declared.delimited.Piece.{Piece}
pub use Rattle.sedck_commands.specs.declared.fault.ScriptFault.TheVariants.{BadAddress, BadExpression, BadFlag, BadLabel, BadReplacement, BadTransliteration, DuplicateLabel, EscapedDelimiter, ExtraText, TooDeep, TooManyAddresses, TooManyCommands, UnclosedBlock, UnknownCommand, UnopenedBlock, Unterminated}
pub use Rattle.sedck_commands.specs.declared.fault.ScriptFault.{ScriptFault}
pub use Rattle.sedck_commands.specs.declared.items.Written.{Written as WrittenCode}
pub use Rattle.sedck_commands.specs.declared.location.Location.{Location}
pub use Rattle.sedck_commands.specs.declared.types.Part.{Part as Coded}
pub use Rattle.memchr.specs.Find.{IsFirstByte, is_byte}
pub use Rattle.sedck_expressions.proofs.WholeReading.{one_spelling, one_tree}
pub use Rattle.sedck_expressions.specs.Tree.{Tree}
pub use Rattle.sedck_expressions.specs.declared.fault.ReFault.{ReFault}
pub use Rattle.sedck_text.proofs.Cursors.{read_unread, unread_length, first_there, unread_ahead}
pub use Rattle.sedck_text.proofs.Runs.{longest_one, longest_parts}
pub use Rattle.sedck_text.specs.Bytes.{ascii}
pub use Rattle.sedck_text.specs.Classes.{is_mark}
pub use Rattle.sedck_text.specs.Cursors.{unread, Follows, IsAhead}
pub use Rattle.sedck_text.specs.Text.{is_in, one_of, begins, begins as begins_with}
pub use Rattle.sedck_text.specs.declared.cursor.Cursor.{Cursor}
