use Rattle.sedck_flow.proofs.Common.{ap, substitution_of, pattern_of}
use Rattle.sedck_flow.proofs.SuccessLemmas.{not_kept, kept, least_of_previous, known_rest}
use Rattle.sedck_flow.proofs.success.least_rest.Goals as goal

pub returns-in_err-least : goal.returns-in_err-least
returns-in_err-least c =
    let fails = not_kept (substitution_of c.args.substitution.now) c.args.substitution.now.outside c.args.substitution.now.is_outside c.in_err-least.was in
    rw c.from_residual.ensures fails

pub returns-in-Previous : goal.returns-in-Previous
returns-in-Previous c =
    let s = substitution_of c.args.substitution.now in
    let keeps = kept s c.args.substitution.now.outside c.args.substitution.now.is_outside c.in_ok-least.least c.in_ok-least.was in
    (keeps, least_of_previous c.args.script.now s c.shortest.result (ap pattern_of c.in-Previous.is) keeps c.shortest.ensures)

pub returns-in-Expr : goal.returns-in-Expr
returns-in-Expr c =
    let s = substitution_of c.args.substitution.now in
    let keeps = kept s c.args.substitution.now.outside c.args.substitution.now.is_outside c.in_ok-least.least c.in_ok-least.was in (
      keeps,
      known_rest s c.args.substitution.now.outside c.args.substitution.now.is_outside c.args.script.now c.in-Expr.field-0 c.in_ok-least.least c.in_ok-least.was
          (ap pattern_of c.in-Expr.is) c.requires,
    )
