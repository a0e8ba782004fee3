use Rattle.sedck_expressions.proofs.Common.{◌∙◌, sym, drop}
use Rattle.sedck_expressions.proofs.ClassNames.{class_skips, class_found}
use Rattle.sedck_expressions.proofs.brackets.symbols.read_class.Goals as goal

pub returns-in-Some-clause-value : goal.returns-in-Some-clause-value
returns-in-Some-clause-value c =
    sym (class_found _ _ c.classes.class-index (drop 2 c.args.text.now) _ c.classes-test.true (sym c.in-Some.ensures.value)) ∙ c.classes.invariant

pub classes-preserved : goal.classes-preserved
classes-preserved c =
    sym (class_skips _ _ c.classes.class-index (drop 2 c.args.text.now) c.classes-test.true (sym c.in_default.ensures.value)) ∙ c.classes.invariant
