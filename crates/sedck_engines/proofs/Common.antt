-- The names that several of these proofs cite, passed on from one place.
pub use Rattle.std.proofs.Common.{Bool, Contains, Err, IfSome, List, None, Ok, Option, Result, Some, [], ap, append-nil, append_assoc, ap₂, arith, get_or, inl, inr, length, refl, subst, suc, sym, take, vec_len, ℕ, ◌++◌, ◌+◌, ◌-◌, ◌<◌, ◌∙◌, ◌∷◌, ◌≡◌, ◌≢◌, ◌≤◌, ◌⊎◌}
pub use Rattle.std.proofs.KnownBytes.{Consumes-trans, Keeps-refl}
pub use Rattle.std.proofs.Math.Seq.{drop-cons, drop-length, take-append_seam}
pub use Rattle.std.proofs.lemmas.Bool.{cases_lt}
pub use Rattle.std.proofs.lemmas.List.{length-map, length-take, take_all}
pub use Rattle.std.specs.Io.KnownBytes.{Consumes, IsAtEnd}
pub use Rattle.std.specs.Prelude.{codes, decimal, drop}
pub use Rattle.sedck_engines.specs.Faults.{certificate_fault, run_fault, script_fault}
pub use Rattle.sedck_engines.specs.Private.Reports.{AddsEdgesFrom, bound_line}
pub use Rattle.sedck_engines.specs.Reports.{IsBoundLine, IsCheckReport, IsFilesReport, IsGraphReport, IsRankReport, edge_lines, loop_text, walk_lines}
pub use Rattle.sedck_cert.specs.Text.{certificate_text, files_text, line}
pub use Rattle.sedck_commands.specs.Program.{Program}
pub use Rattle.sedck_flow.specs.Nodes.{node_count, node_index}
pub use Rattle.sedck_flow.specs.Words.{edge_words, kind_text, node_words}
pub use Rattle.sedck_flow.specs.declared.graph.Node.{Node}
