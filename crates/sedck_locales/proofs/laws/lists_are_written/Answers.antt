use Rattle.sedck_expressions.specs.Shape.{Whole}
use Rattle.sedck_locales.proofs.WrittenTrees.{lists_found}
use Rattle.sedck_locales.proofs.laws.lists_are_written.Goals as goal

pub returns : goal.returns
returns c = λ text t shape. lists_found text t Whole shape.0
