use Rattle.std.proofs.Common.{◌≡◌, ◌||◌, take}
use Rattle.sedck_report.specs.Levels.{has_warning, has_locale, has_error}
use Rattle.sedck_report.specs.Files.{is_there}
use Rattle.sedck_errors.proofs.denied.push_each_file.Given as goal

abbrev pub invariant-loop-file : goal.invariant-loop-file
invariant-loop-file l = (has_error l.findings.items ≡ (has_error l.initial.findings.items || is_there (take l.file-index l.files)))
    × (has_warning l.findings.items ≡ has_warning l.initial.findings.items)
    × (has_locale l.findings.items ≡ has_locale l.initial.findings.items)
