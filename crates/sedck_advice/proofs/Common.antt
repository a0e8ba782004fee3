-- The names that several of these proofs cite, passed on from one place.
pub use Rattle.std.proofs.Common.{◌≡◌, ◌∙◌, ◌||◌, ◌&&◌, Bool, true, false, List, [], ◌∷◌, ◌++◌, Option, refl, sym, ap, subst, ◌+◌, min, map, drop, take}
pub use Rattle.std.proofs.lemmas.List.Folds.{list_any-append}
pub use Rattle.std.specs.List.{list_any}
pub use Rattle.sedck_advice.specs.Added.{AddsNoError, AddsOthers}
pub use Rattle.sedck_advice.specs.Private.Weights.{WeighsAll}
pub use Rattle.sedck_advice.specs.Slow.{written_out, all_written_out, copies}
pub use Rattle.sedck_bre.proofs.CappedSums.{capped_sum}
pub use Rattle.sedck_bre.specs.Lengths.{cap}
pub use Rattle.sedck_bre.specs.Tree.{trees}
pub use Rattle.sedck_bre.specs.View.{tree}
pub use Rattle.sedck_report.specs.Files.{names_of}
pub use Rattle.sedck_report.specs.Levels.{is_error, is_warning, is_locale, has_locale}
pub use Rattle.sedck_report.specs.declared.finding.Finding.{Finding}
pub use Rattle.sedck_script.specs.ByteSafe.{depends_on_characters}
pub use Rattle.sedck_script.specs.View.{command_of}
