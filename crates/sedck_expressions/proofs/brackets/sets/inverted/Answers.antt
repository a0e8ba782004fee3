use Rattle.sedck_expressions.proofs.Common.{w64, bit_at_not}
use Rattle.std.proofs.Math.Facts.{Fits-lt-pow}
use Rattle.sedck_expressions.proofs.brackets.sets.inverted.Goals as goal

pub returns : goal.returns
returns c = λ k below. bit_at_not w64 c.args.word k (Fits-lt-pow c.ranges.word) below
