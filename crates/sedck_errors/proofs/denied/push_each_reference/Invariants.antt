use Rattle.std.proofs.Common.{◌≡◌, ◌||◌, take}
use Rattle.sedck_report.specs.Levels.{has_warning, has_locale, has_error}
use Rattle.sedck_report.specs.Files.{is_there}
use Rattle.sedck_errors.proofs.denied.push_each_reference.Given as goal

abbrev pub invariant-loop-place : goal.invariant-loop-place
invariant-loop-place l = (has_error l.findings.items ≡ (has_error l.initial.findings.items || is_there (take l.place-index l.places)))
    × (has_warning l.findings.items ≡ has_warning l.initial.findings.items)
    × (has_locale l.findings.items ≡ has_locale l.initial.findings.items)
