use Rattle.sedck_script.proofs.Common.{◌∙◌, ℕ, List, Some, ap, sym, arith, eqb-true, eq-eqb, get_or-take, length-take-le, slice_get-get_or, IsFirstZero, IsFirstFault}
use Rattle.memchr.specs.Find.{IsFirstByte, is_byte}
use Rattle.sedck_script.proofs.parsing.check_text.Goals as goal

-- the first byte 0 that is found
first_zero : (text : List ℕ) (place : ℕ) → IsFirstByte (is_byte 0) text (Some place) → IsFirstZero text place
first_zero text place first = (
  slice_get-get_or text place 0 (omega arith) ∙ ap Some (eqb-true _ 0 first.1),
  λ k. first.0.before k.0 (omega arith) (omega (arith, k.1, length-take-le place text (omega arith)))
      (eq-eqb _ 0 (sym (get_or-take place text k.0 0 (omega (arith, k.1, length-take-le place text (omega arith)))) ∙ k.2)),
)

pub returns-then-text-gt-TEXT_LIMIT-clause-first : goal.returns-then-text-gt-TEXT_LIMIT-clause-first
returns-then-text-gt-TEXT_LIMIT-clause-first c = IsFirstFault.too_long (omega arith)

pub returns-in-Some-clause-first : goal.returns-in-Some-clause-first
returns-in-Some-clause-first c = IsFirstFault.zero (omega arith) (first_zero c.args.text.now c.in-Some.place c.in-Some.ensures)
