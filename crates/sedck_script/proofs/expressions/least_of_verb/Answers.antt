use Rattle.sedck_script.proofs.Common.{[], ap, refl, None}
use Rattle.sedck_script.proofs.ShortestLemmas.{trees_of, no_patterns, least_of_same}
use Rattle.sedck_script.proofs.expressions.least_of_verb.Goals as goal

pub returns : goal.returns
returns c = least_of_same _ [] None None (ap trees_of (no_patterns c.args.verb.now c.in_default.not-Substitute)) refl refl
