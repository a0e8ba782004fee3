use Rattle.sedck_commands.proofs.Common.{ap, sym, ◌∙◌, both_ways, IsTrue, cow_slice_items, is_misread, ExpressionTextFault}
use Rattle.sedck_commands.proofs.ResultLemmas.{if_err_from}
use Rattle.sedck_commands.proofs.EscapeLemmas.{written_expression}
use Rattle.sedck_commands.proofs.FaultLemmas1.{misread_fault}
use Rattle.sedck_commands.proofs.delimited.read_expression_text.Goals as goal
use Rattle.sedck_commands.proofs.delimited.read_expression_text.Goals.{in-Some+else-is_misread, in_default}

pub returns-in_err-bytes-clause-first : goal.returns-in_err-bytes-clause-first
returns-in_err-bytes-clause-first c =
    if_err_from _ c.from_residual.result _ c.from_residual.ensures.1 (λ memory. ExpressionTextFault.cut (c.in_err-bytes.ensures.first memory))

pub returns-then-is_misread-clause-first : goal.returns-then-is_misread-clause-first
returns-then-is_misread-clause-first c = λ memory.
    let misread : IsTrue (is_misread c.args.delimiter (cow_slice_items c.in_ok-bytes.bytes)) =
    ap (is_misread c.args.delimiter) (sym c.as_slice.ensures.value) ∙ sym c.is_misread.ensures ∙ c.if-is_misread.true in
    misread_fault c.args.opening c.in_ok-bytes.ensures.read c.in_ok-bytes.ensures.escape c.in-Some.place c.in-Some.is misread

pub returns-clause-read : goal.returns-clause-read
returns-clause-read c = written_expression c.in_ok-bytes.ensures.read c.in_ok-bytes.ensures.escape (λ place some misread. elim c.match-escape.branch [
  | in-Some+else-is_misread w ↦ both_ways _
      (ap (is_misread c.args.delimiter) (sym w.as_slice.ensures.value) ∙ sym w.is_misread.ensures ∙ w.if-is_misread.false) misread
  | in_default w ↦ cc (w.in_default.is, some)
])
