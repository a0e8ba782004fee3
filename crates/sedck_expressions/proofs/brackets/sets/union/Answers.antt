use Rattle.sedck_expressions.proofs.SetLemmas.{union_just}
use Rattle.sedck_expressions.proofs.brackets.sets.union.Goals as goal

pub returns : goal.returns
returns c = λ p q. union_just c.args.a.0 c.args.b.0 p q
