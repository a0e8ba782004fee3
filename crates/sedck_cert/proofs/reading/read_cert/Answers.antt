use Rattle.sedck_cert.proofs.Common.{sym, ◌∙◌, Two}
use Rattle.sedck_cert.proofs.UniqueTexts.{text_of_one}
use Rattle.sedck_cert.proofs.WholeReading.{refused_as, placed_as}
use Rattle.sedck_cert.proofs.reading.read_cert.Goals as goal

pub returns-clause-only : goal.returns-clause-only
returns-clause-only c other written =
    text_of_one Two c.args.text.now _ other c.in_ok-read_lines.ensures.read written ∙ sym c.of_parts.ensures

pub returns-in_err-read_lines-clause-refused : goal.returns-in_err-read_lines-clause-refused
returns-in_err-read_lines-clause-refused c = refused_as Two _ c.from_residual.result _ c.from_residual.ensures.1 c.in_err-read_lines.ensures.refused

pub returns-in_err-read_lines-clause-placed : goal.returns-in_err-read_lines-clause-placed
returns-in_err-read_lines-clause-placed c = placed_as Two _ c.from_residual.result _ c.from_residual.ensures.1 c.in_err-read_lines.ensures.refused
