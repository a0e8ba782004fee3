use Rattle.std.proofs.Common.{◌==◌, ◌∙◌}
use Rattle.sedck_text.specs.Bytes.{newline}
use Rattle.sedck_text.proofs.Runs.{first_place}
use Rattle.sedck_report.proofs.places.line_len.Goals as goal

pub returns-clause-value : goal.returns-clause-value
returns-clause-value c = c.unwrap_or.ensures ∙ first_place (λ b. b == newline) c.args.text.now _ c.memchr.ensures
