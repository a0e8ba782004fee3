use Rattle.sedck_commands.proofs.Common.{sym, ◌∙◌, subst, arith, Text, EscapedPart, line, tabulator, group, other}
use Rattle.sedck_commands.proofs.ReplacementLemmas.{digit_group}
use Rattle.sedck_commands.proofs.replacements.escaped_part.Goals as goal

pub returns-then-b-eq110-clause-read : goal.returns-then-b-eq110-clause-read
returns-then-b-eq110-clause-read c = (line c.if-b-eq110.true, tt)

pub returns-then-b-eq116-clause-read : goal.returns-then-b-eq116-clause-read
returns-then-b-eq116-clause-read c = (tabulator c.if-b-eq116.true, tt)

pub returns-then-not-is_digit-clause-read : goal.returns-then-not-is_digit-clause-read
returns-then-not-is_digit-clause-read c = (
  subst (λ t. EscapedPart c.args.b (Text t)) (sym c.requires)
      (other (sym c.is_letter.ensures ∙ c.if-is_letter.false) (sym c.is_digit.ensures ∙ c.if-not-is_digit.true)),
  tt,
)

pub returns-clause-read : goal.returns-clause-read
returns-clause-read c =
    let range = digit_group c.args.b (sym c.is_digit.ensures ∙ c.if-not-is_digit.false) c.if-b-eq48.false in
    (group range.0 range.1, omega arith)
