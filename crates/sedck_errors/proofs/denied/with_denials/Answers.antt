use Rattle.std.proofs.Common.{◌≡◌, ◌∙◌, ap}
use Rattle.sedck_report.specs.Levels.{has_warning}
use Rattle.sedck_errors.specs.Denials.{denies}
use Rattle.sedck_errors.proofs.Denials.{kind_behind}
use Rattle.sedck_errors.proofs.denied.with_denials.Goals as goal

pub returns-clause-denied : goal.returns-clause-denied
returns-clause-denied c =
    kind_behind (denies c.args.denied.warnings) c.push_references.new.findings.items c.args.findings.items c.append.new.self.items c.in_ok-append.ensures.items
    (c.in_ok-push_references.ensures.warnings ∙ c.in_ok-push_slow.ensures.warnings ∙ c.in_ok-push_warnings.ensures.warnings
    ∙ c.in_ok-push_missing_limit-2.ensures.warnings ∙ c.in_ok-push_missing_limit.ensures.warnings ∙ c.in_ok-push_files-2.ensures.warnings
    ∙ c.in_ok-push_files.ensures.warnings ∙ ap has_warning c.new-all.ensures.items)
