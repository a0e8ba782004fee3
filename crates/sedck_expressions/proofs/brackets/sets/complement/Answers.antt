use Rattle.sedck_expressions.proofs.SetLemmas.{complement_just}
use Rattle.sedck_expressions.proofs.brackets.sets.complement.Goals as goal

pub returns : goal.returns
returns c = λ p. complement_just c.args.set.0 p c.inverted.result c.inverted-2.result c.inverted-3.result c.inverted-4.result c.inverted.ensures
    c.inverted-2.ensures c.inverted-3.ensures c.inverted-4.ensures
