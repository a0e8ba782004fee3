use Rattle.sedck_script.proofs.Common.{◌∷◌, [], ap, refl, Some, pattern_expressions, pattern_of}
use Rattle.sedck_script.proofs.ShortestLemmas.{least_of_same, one_has_least}
use Rattle.sedck_script.proofs.expressions.least_of_pattern.Goals as goal

pub returns-in-Expr : goal.returns-in-Expr
returns-in-Expr c =
    least_of_same _ (c.in-Expr.expression ∷ []) (Some c.least.result) _ (ap (λ p. pattern_expressions (pattern_of p)) c.in-Expr.is) refl
    (one_has_least c.in-Expr.expression c.least.result c.least.ensures)
