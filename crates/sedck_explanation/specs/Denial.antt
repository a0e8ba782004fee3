-- What a caller may deny of an accepted script, this project's own: files that it reads or writes, warnings, steps or spaces without a
-- limit, and expressions that are slow to match or have a reference. A script that isn't accepted has its status with or without it.
use Rattle.std.specs.Prelude.{Bool, false, ◌&&◌, ◌||◌, List, Option, Some, None, if◌then◌else◌}
use Rattle.sedck_script.specs.Program.{Program}
use Rattle.sedck_cert.specs.Limits.{is_unbounded, is_growing}
use Rattle.sedck_report.specs.Files.{is_there}
use Rattle.sedck_report.specs.Levels.{warns_of}
use Rattle.sedck_report.specs.declared.finding.Finding.{Finding}
use Rattle.sedck_advice.specs.Slow.{is_slow}
use Rattle.sedck_advice.specs.References.{has_references}
use Rattle.sedck_errors.specs.Denials.{denies, no_warnings}
use Rattle.sedck_errors.specs.declared.denied.Denied.{Denied}
use Rattle.sedck_answer.specs.Answers.{status_of}
use Rattle.sedck_answer.specs.declared.answer.Answer.{Answer}
use Rattle.sedck_answer.specs.declared.answer.Answer.TheVariants.{Accepted}
use Rattle.sedck_explanation.specs.declared.answer.Expressions.{Expressions}
use Rattle.sedck_answer.specs.declared.status.Status.{Status}
use Rattle.sedck_answer.specs.declared.status.Status.TheVariants.{Rejected}

-- nothing is denied, and nothing is known of the locale
abbrev pub nothing : Denied
nothing = record { reads = false; writes = false; warnings = no_warnings; unbounded = false; growing = false; slow = false; references = false; c_locale = false }

-- what may be denied of the expressions of a script, where one is kept
abbrev pub expressions_of : Option Program → Expressions
expressions_of None = record { slow = false; references = false }
expressions_of (Some p) = record { slow = is_slow p; references = has_references p }

-- one of the findings is a warning that is denied
abbrev pub warns_of_denied : Denied → List Finding → Bool
warns_of_denied denied findings = warns_of (denies denied.warnings) findings

-- The script is accepted, and has what is denied. Its lists are those of the accepted certificate.
abbrev pub is_denied : Denied → List Finding → Expressions → Answer → Bool
is_denied denied findings expressions (Accepted cert limits) =
    (denied.reads && is_there cert.reads) || (denied.writes && is_there cert.writes)
    || (denied.unbounded && is_unbounded limits) || (denied.growing && is_growing limits) || warns_of_denied denied findings
    || (denied.slow && expressions.slow) || (denied.references && expressions.references)
is_denied denied findings expressions _ = false

-- the exit status: rejected for a script that is accepted and has what is denied, else that of the answer
abbrev pub status_under : Denied → List Finding → Expressions → Answer → Status
status_under denied findings expressions answer = if is_denied denied findings expressions answer then Rejected else status_of answer
