use Rattle.std.proofs.Common.{◌≡◌, ◌||◌, take}
use Rattle.sedck_report.specs.Levels.{has_warning, has_locale, has_error, warns_of}
use Rattle.sedck_errors.specs.Denials.{denies}
use Rattle.sedck_errors.proofs.denied.push_warnings.Given as goal

abbrev pub invariant-loop-finding : goal.invariant-loop-finding
invariant-loop-finding l = (has_error l.findings.items ≡ (has_error l.initial.findings.items || warns_of (denies l.denied) (take l.finding-index l.given)))
    × (has_warning l.findings.items ≡ has_warning l.initial.findings.items)
    × (has_locale l.findings.items ≡ has_locale l.initial.findings.items)
