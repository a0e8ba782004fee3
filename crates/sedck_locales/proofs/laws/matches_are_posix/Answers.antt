use Rattle.sedck_expressions.specs.Shape.{Whole}
use Rattle.sedck_locales.proofs.PosixMatches.{spelling_same}
use Rattle.sedck_locales.proofs.laws.matches_are_posix.Goals as goal

pub returns : goal.returns
returns c = λ text t shape e w e'. spelling_same t Whole text e w e' shape.1.sound shape.0
