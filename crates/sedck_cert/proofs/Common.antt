-- The names that several of these proofs cite, passed on from one place.
pub use Rattle.std.proofs.Common.{◌≡◌, ◌≢◌, ℕ, ◌+◌, ◌<◌, List, [], ◌∷◌, ◌++◌, length, take, get_or, refl, sym, ap, ◌∙◌, arith, false, Option, Some, None, Bool, ◌≤◌, Contains, subst, inl, inr, true, zero, suc, ◌^◌, codes, append_assoc, decimal, ◌-◌, ◌*◌, take_all, subst₂, Vec, ◌⊎◌, Result, Ok, Err, IfErr, length-append, append-nil, ◌%◌, drop, mul-le-mul_right, All, OnErr, rules, IfOk, IfSome, OnOk, add-one, below_more, cond, count_by, eq-or-lt_of_le, mul-le-mul_left, nat_lt, ◌==◌}
pub use Rattle.std.proofs.Math.Seq.{drop-cons, drop-append_seam, take-append_seam}
pub use Rattle.std.proofs.lemmas.Bool.{false≢true, cases_lt, and_parts, ltb-true}
pub use Rattle.std.proofs.lemmas.Fmt.{decimal_injective, length-decimal-le, decimal-digits_value, decimal_digit, decimal_nonempty, digits_decimal, digits_value-decimal, first_decimal}
pub use Rattle.std.proofs.lemmas.Grind.{common_steps}
pub use Rattle.std.proofs.lemmas.List.Elements.{Contains-append_right, All-from_recursion, All-contains, Contains-append_cases, recursion_from_All, All-from_get_or, All-push, Contains-append_left}
pub use Rattle.std.proofs.lemmas.List.Sums.{sum_by-cons, sum_by-append}
pub use Rattle.std.proofs.lemmas.List.{take_more, append_cancel_left, length-map, drop_all, ext_get_or, get_or-map, length-drop, length-take, length-take-le, map-append, map_push, take-append-drop, take_rest}
pub use Rattle.std.proofs.lemmas.Option.{none-some, same_Some, slice_get_past, slice_get_within}
pub use Rattle.std.specs.Bool.{OnFalse, IsTrue, MatchBool, OnTrue}
pub use Rattle.std.specs.Borrow.{Bor}
pub use Rattle.std.specs.Cmp.Lexicographic.{slice_cmp, told_text}
pub use Rattle.std.specs.Int.{IsInRange}
pub use Rattle.std.specs.Io.KnownBytes.{Appends}
pub use Rattle.std.specs.List.{AllByRecursion, list_all}
pub use Rattle.std.specs.Option.{option_flatten, ok_or}
pub use Rattle.std.specs.Ordering.{nat_cmp, ord_max}
pub use Rattle.std.specs.Prelude.{is_some, MatchOption, slice_get, ◌↔◌, ◌/◌, flat_map, if◌then◌else◌, map, is_none, max}
pub use Rattle.std.specs.Str.Parse.{AllDigits, digits_value}
pub use Rattle.std.specs.declared.alloc.Global.{Global}
pub use Rattle.sedck_cert.specs.Bounds.{BoundsRuns, IsBoundByLines, IsBoundOf}
pub use Rattle.sedck_cert.specs.Certificate.{Certificate, AreWithin, IsCertificate, nodes_in}
pub use Rattle.sedck_cert.specs.Everywhere.{BoundsAllRuns, BoundsEverywhere, IsSafeEverywhere}
pub use Rattle.sedck_cert.specs.Faults.{Due, nodes_due, IsWrong, Name, list_word, ComesAfter, after_list, names_due, IsDue, AreDue, IsRefused, fault_at, Header, Count, Names, Last, Nothing, IsFaultOf, IsLineOf, line_of}
pub use Rattle.sedck_cert.specs.Headline.{IsJudged, AreSafe, IsAnswered, IsLimit, IsOutOfMemory, IsSafe, IsScriptFaultOf, IsVerdict, Only, ReadBoth, SaysWhy, SpellBoth}
pub use Rattle.sedck_cert.specs.Laws.{falling_limit, steady_limit, text_limit}
pub use Rattle.sedck_cert.specs.Private.Cuts.{IsCut, IsBehind}
pub use Rattle.sedck_cert.specs.Private.Reading.{Leads, list_texts, IsNext, Stops, certificate_lines, AreNext, one_before}
pub use Rattle.sedck_cert.specs.Ranked.{ranks_at, IsSteady, NeverGrows, IsFirstGrowth, MeetsEdge, IsRanked, LowersFirst, AllLowerFirst, IsFalling, Accepts, Lowers, IsGrowth, ListsNames}
pub use Rattle.sedck_cert.specs.Rejections.{IsRejection, IsFirstUnmet, IsStarted}
pub use Rattle.sedck_cert.specs.SpaceLimit.{AppendsToHold, AreSpacesWithin, IsCompact, IsInputSize, BoundsAllSpaces, BoundsSpaces, BoundsSpacesEverywhere}
pub use Rattle.sedck_cert.specs.StepLimit.{greatest_first, greatest_second, step_limit, greatest, line_limit, lines_limit, stay_limit, stay_space}
pub use Rattle.sedck_cert.specs.Streams.{AppendsPrefix}
pub use Rattle.sedck_cert.specs.Text.{ranks_text, node_text, node_texts, header, IsTextOf, words_in, joined_lines, IsOneLine, FileLists, file_lists, line, files_text, EndsWithLists, certificate_text, last_lines}
pub use Rattle.sedck_cert.specs.VersionOne.{upgraded, doubled, AcceptsOne, ranks_at_one}
pub use Rattle.sedck_cert.specs.Versions.{SpellsCertificate, IsFaultIn, SaysVersionOne}
pub use Rattle.sedck_cert.specs.View.{names_of}
pub use Rattle.sedck_cert.specs.declared.checking.Rejection.TheVariants.{LeavesRanked, NotLowered, ReadsDiffer, StartUnranked, WritesDiffer, WrongCount}
pub use Rattle.sedck_cert.specs.declared.checking.Rejection.{Rejection}
pub use Rattle.sedck_cert.specs.declared.limits.Bound.{Bound}
pub use Rattle.sedck_cert.specs.declared.reading.CertFault.TheVariants.{OutOfMemory}
pub use Rattle.sedck_cert.specs.declared.reading.CertFault.{CertFault}
pub use Rattle.sedck_cert.specs.declared.reading.lines.Lines.{Lines}
pub use Rattle.sedck_cert.specs.declared.reading.names.Files.TheVariants.{Reads, Writes}
pub use Rattle.sedck_cert.specs.declared.versions.Version.TheVariants.{One, Two}
pub use Rattle.sedck_cert.specs.declared.versions.Version.{Version}
pub use Rattle.sedck_commands.proofs.ResultLemmas.{if_err_from}
pub use Rattle.sedck_commands.specs.Program.{Program, Command, Address, Substitution, Verb, HoldAppend, Substitute, Block, Branch, Change, Delete, DeleteFirstLine, Exchange, Get, GetAppend, Hold, Next, NextAppend, Quit, Test, Transliterate}
pub use Rattle.sedck_flow.proofs.CharacterRuns.{character_run_wide}
pub use Rattle.sedck_flow.proofs.NotStart.{step_begun, done_ends}
pub use Rattle.sedck_flow.proofs.SpaceGrowth.{AddsLine, step_adds, step_grown}
pub use Rattle.sedck_flow.proofs.States.{file_begins, next_file_begins, at_inj, at-done, BeginsWith, cycle_begins, next_begins}
pub use Rattle.sedck_flow.proofs.StepsFollowEdges.{wide_follows}
pub use Rattle.sedck_flow.proofs.Widening.{run_is_wide}
pub use Rattle.sedck_flow.specs.Flow.{ListsEdges, Flow, FlowFrom, AreInOrder, CommandEdge, HasKind, IsEarlier, ReadsLine}
pub use Rattle.sedck_flow.specs.Laws.{is_last, node_of, IsTruthful}
pub use Rattle.sedck_flow.specs.Nodes.{start, node_index, node_count}
pub use Rattle.sedck_flow.specs.Private.Fits.{lines_left, Fits}
pub use Rattle.sedck_flow.specs.Run.{Files, Machine, State, Start, At, Done, Event, StepIn, StepsIn, Run, NamesForReading, NamesForWriting, ChangesText, Does, DropsFirstLine, NextCycle, StepAt, StepPast, SubstituteStep, TakesLine, after_end, onward, posix, skip, state_after}
pub use Rattle.sedck_flow.specs.Spaces.{bytes_of, longest, space_after}
pub use Rattle.sedck_flow.specs.WideRun.{WideRun, any_locale, all_lines}
pub use Rattle.sedck_flow.specs.declared.graph.Edge.{Edge}
pub use Rattle.sedck_flow.specs.declared.graph.Kind.TheVariants.{Grow, Consume, Shorten, Keep}
pub use Rattle.sedck_flow.specs.declared.graph.Kind.{Kind}
pub use Rattle.sedck_flow.specs.declared.graph.Node.{Node}
pub use Rattle.sedck_script.proofs.SortedNames.{all_append, Contains-cons_cases, Contains-cons_more, all_later, all_weaker, sorted_names-rise, sorted_names-same}
pub use Rattle.sedck_script.specs.Invariant.{AreWellFormed}
pub use Rattle.sedck_script.specs.Names.{IsName, AreNames, names_size, AreIncreasing, IsBefore, read_names, reads, sorted_names, write_names, writes, writes as names_of_script}
pub use Rattle.sedck_script.specs.View.{command_of}
pub use Rattle.sedck_text.specs.Bytes.{newline}
