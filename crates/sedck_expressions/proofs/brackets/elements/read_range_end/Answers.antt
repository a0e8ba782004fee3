use Rattle.sedck_expressions.proofs.Common.{err_from_is_err_and, take_rest}
use Rattle.sedck_expressions.proofs.OffsetLemmas.{flaw_further}
use Rattle.sedck_expressions.proofs.brackets.elements.read_range_end.Goals as goal

pub returns-in_err-last-clause-flaw : goal.returns-in_err-last-clause-flaw
returns-in_err-last-clause-flaw c =
    let p = err_from_is_err_and c.from_residual.result c.from_residual.ensures.1 in
    let flaw = rw (take_rest c.args.text.now c.args.count) at c.in_err-last.ensures.flaw in
    rw (p.1, p.2) (flaw_further c.args.text.now c.args.count _ c.requires flaw)
