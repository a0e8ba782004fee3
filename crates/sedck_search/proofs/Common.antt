-- The names that several of these proofs cite, passed on from one place.
pub use Rattle.std.proofs.Common.{◌≡◌, ℕ, ◌<◌, ◌≤◌, List, [], ◌∷◌, ◌++◌, length, refl, sym, ap, ◌∙◌, subst, inl, inr, arith, ◌≢◌, ◌⊎◌, true, zero, suc, ◌+◌, get_or, Contains, subst₂, ◌-◌, take, drop, ap₂, length-append, ◌*◌, false, ◌^◌, Fits, w64, ◌/◌, ◌%◌, min, Bool, replicate, append-nil, append_assoc, add-one, add-zero, add_assoc, cond, get_or-drop, get_or-take, max, take-add, take-suc, zero-add}
pub use Rattle.std.proofs.Math.Seq.{drop-append_seam, take-length}
pub use Rattle.std.proofs.lemmas.Bool.Decides.{nat_tests}
pub use Rattle.std.proofs.lemmas.Bool.{cases_lt, cases_eq, true≢false, false≢true, ne_eqb}
pub use Rattle.std.proofs.lemmas.List.Elements.{All-cons, All-contains, All-from_get_or, All-get_or, All-nil, All-replicate, All-set, Contains-append_right, Contains-push_cases}
pub use Rattle.std.proofs.lemmas.List.{length-set, length-drop, take-append-le, take_all, take-append-drop, length-map, drop-append-le, drop-drop, ext_get_or, get_or-set_other, get_or-set_same, get_or_append_left, get_or_past, get_or_push, length-take, length_push, take_more}
pub use Rattle.std.proofs.lemmas.Nat.Bits.{bit_at-lt, bit_at-zero, bit_at-suc, bit_at-trailing_zeros, bit_at_and, bit_at_clear_other, bit_at_clear_same, bit_at_lowest, bit_at_mask_below, bit_at_mask_inside, bit_at_or, bit_at_set_other, bit_at_set_same, ones_shl, shr_and_one}
pub use Rattle.std.proofs.lemmas.Nat.{and_le_l, ones-le, or_lt}
pub use Rattle.std.proofs.lemmas.Option.{slice_get_within, same_Some, slice_get-get_or, get_or_from_slice_get, slice_get_past, none-some}
pub use Rattle.std.specs.Int.{bit_at, trailing_zeros}
pub use Rattle.std.specs.List.{remove, slice_range}
pub use Rattle.std.specs.Prelude.{Some, slice_get, set, eqb, if◌then◌else◌, slice_index, map, count_ones, bit_and, bit_or, ◌==◌, None, MatchOption, All, MatchBool, Option, is_some, not}
pub use Rattle.sedck_search.specs.Obstacle.{IsPath, IsReachable, IsObstacle, HasForm, HasNone, HasOnly, HasSome, MarkReachable, BeginsGrowing, HasNoIdle, IsChosen, IsFirst, IsSought, IsWalk, walk_edges}
pub use Rattle.sedck_search.specs.Private.Closing.{closing_kind, back_filter, Closes, IsFirstClosing}
pub use Rattle.sedck_search.specs.Private.Components.{IsMember, IsOrderOf, AreSets, AreIndices, AreLinks, IsOrder}
pub use Rattle.sedck_search.specs.Private.Distances.{HasDistance, HasNeighborWithin, ArePathLengths, AreDistances, IsSettled}
pub use Rattle.sedck_search.specs.Private.EdgeTable.{ListsNodes}
pub use Rattle.sedck_search.specs.Private.Frontier.{AddsNode, AddsReached, AddsTargets, AreSearchSets, AddsTarget}
pub use Rattle.sedck_search.specs.Private.KeptSets.{IsKeptFor, AreKept, AreCounts}
pub use Rattle.sedck_search.specs.Private.NodeSet.{IsNodeSet, HasChanged, IsEmpty, IsUnion, AreZeroBefore, AreWordsOfBoth, AreZeroFrom, IsNext}
pub use Rattle.sedck_search.specs.Private.OtherSide.{turned, IsLastAlone, AsksNotForLast, turned_edge}
pub use Rattle.sedck_search.specs.Private.Ranking.{ranks_of_counts, ranks_from}
pub use Rattle.sedck_search.specs.Private.Reaching.{IsFollowed, AreFollowed, Reaches, FollowedEdge, IsReachCount, HasCount, AreCounted, IsClosed, IsIn, HasNoCount, ArePartlyCounted, IsReachOf, IsUncounted}
pub use Rattle.sedck_search.specs.Private.SameRanks.{KeepsOrReads, KeepsSpace}
pub use Rattle.sedck_search.specs.Private.ShortestLoop.{IsBegun, IsClosing, IsShortestLoop, IsNearest}
pub use Rattle.sedck_search.specs.Rows.{bit_count}
pub use Rattle.sedck_search.specs.declared.answer.Form.TheVariants.{Idle, Growing}
pub use Rattle.sedck_search.specs.declared.answer.Form.{Form}
pub use Rattle.sedck_search.specs.declared.answer.Walk.{Walk}
pub use Rattle.sedck_search.specs.declared.filter.EdgeFilter.TheVariants.{Unread, Kept, Every}
pub use Rattle.sedck_search.specs.declared.filter.EdgeFilter.{EdgeFilter}
pub use Rattle.sedck_cert.specs.Certificate.{Certificate, AreWithin, IsCertificate}
pub use Rattle.sedck_cert.specs.Ranked.{ranks_at, Lowers, IsRanked, Accepts, ListsNames}
pub use Rattle.sedck_cert.specs.View.{certificate_of, names_of}
pub use Rattle.sedck_commands.specs.Program.{Program, Command, Address, Block, Change, Delete, DeleteFirstLine, Last, Next, NextAppend, One, Quit, Substitute, Test, Two, Verb}
pub use Rattle.sedck_flow.proofs.EdgesInside.{inside}
pub use Rattle.sedck_flow.proofs.EdgesLemmas.{drop_next, read_command}
pub use Rattle.sedck_flow.proofs.NodeLemmas.{node_same, node_at, index_below, index-nth, inside_below, index-before}
pub use Rattle.sedck_flow.specs.Flow.{FlowFrom, ListsEdges, Flow, CommandEdge, HasKind, MayNotSelectAt, MaySelectAt, ReadsLine, VerbEdge, node_past}
pub use Rattle.sedck_flow.specs.Nodes.{start, node_index, node_count, nth_node, moved_to, next, with_flag}
pub use Rattle.sedck_flow.specs.declared.graph.Edge.{Edge}
pub use Rattle.sedck_flow.specs.declared.graph.Kind.TheVariants.{Consume, Keep, Grow, Shorten}
pub use Rattle.sedck_flow.specs.declared.graph.Kind.{Kind}
pub use Rattle.sedck_flow.specs.declared.graph.Node.{Node}
pub use Rattle.sedck_script.specs.Invariant.{IsScript, AreTargetsWithin}
pub use Rattle.sedck_script.specs.View.{command_of}
