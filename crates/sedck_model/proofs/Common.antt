-- The names that several of these proofs cite, passed on from one place.
pub use Rattle.std.proofs.Common.{◌≡◌, ◌∙◌, inl, inr, ℕ, ◌+◌, ◌<◌, List, [], ◌∷◌, ◌++◌, length, take, get_or, map, refl, sym, ap, subst, arith, zero, suc, ◌≤◌, drop, Option, None, Result, Ok, Err, length-append, append_assoc, ◌-◌, Some, ◌⊎◌, Bool, true, false, cond, eqb, length-drop, IsTrue, rules, ◌*◌, below_more}
pub use Rattle.std.proofs.Math.Path.{fun_ext}
pub use Rattle.std.proofs.lemmas.Bool.{eqb-true, false≢true}
pub use Rattle.std.proofs.lemmas.Bool.Decides.{nat_tests, Decides-at}
pub use Rattle.std.proofs.lemmas.List.{take_more, map-append, take-append-drop, take_at, append_cancel_right, take_all, length-map, get_or-map}
pub use Rattle.std.proofs.lemmas.List.Elements.{Contains-get_or, Contains-append_left, Contains-append_right, Contains-append_cases, All-contains, Contains-push_cases}
pub use Rattle.std.proofs.lemmas.Option.{slice_get_read}
pub use Rattle.std.proofs.lemmas.Result.{IfOk-weaker}
pub use Rattle.std.proofs.lemmas.Slice.Eq.{bytes_eq-Decides}
pub use Rattle.std.specs.Borrow.{Bor}
pub use Rattle.std.specs.Cmp.Lexicographic.{same_text, other_text}
pub use Rattle.std.specs.List.{All, slice_get}
pub use Rattle.std.specs.Prelude.{Contains, ◌↔◌, IfOk, replicate}
pub use Rattle.sedck_bre.specs.Match.{no_groups, unset, Groups, Match, text_of}
pub use Rattle.sedck_commands.specs.Program.{Program, expressions}
pub use Rattle.sedck_expressions.proofs.ViewLemmas.{tree-Any}
pub use Rattle.sedck_expressions.specs.Private.Sequence.{sequence}
pub use Rattle.sedck_expressions.specs.Tree.{Tree, Trees, Group, Seq, Repeat, Then, groups_in, is_in, trees, groups_in_all}
pub use Rattle.sedck_expressions.specs.View.{tree}
pub use Rattle.sedck_expressions.specs.declared.tree.Bre.{Bre}
pub use Rattle.sedck_flow.specs.Patterns.{StandsFor}
pub use Rattle.sedck_flow.specs.Run.{Run, state_after, MayBecome}
pub use Rattle.sedck_model.specs.Private.Candidates.{trees_in}
pub use Rattle.sedck_model.specs.Private.Lists.{AreLed, AreWithin, Relation, Among, IsLed, Adds, AddsLed, IsBetween, IsNext, IsWithout}
pub use Rattle.sedck_model.specs.Private.Relations.{Closes, Steps, UpTo, Many, Consumes, Repeats, Passes}
pub use Rattle.sedck_model.specs.Private.Replacing.{ReplacesIn, Replaces, ReplacesAt, text_for}
pub use Rattle.sedck_model.specs.Spots.{Reached, reached, beginning, groups_of, span_text, Leads, AreEnds, HasPartIn}
pub use Rattle.sedck_model.specs.States.{state_of, move_of, lines_of}
pub use Rattle.sedck_model.specs.declared.spots.Span.{Span}
pub use Rattle.sedck_model.specs.declared.spots.Spot.{Spot}
pub use Rattle.sedck_script.specs.View.{part_of, command_of, pattern_of, substitution_of}
pub use Rattle.sedck_text.specs.Bytes.{newline}
