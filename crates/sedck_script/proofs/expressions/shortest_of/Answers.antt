use Rattle.sedck_script.proofs.Common.{map, subst, sym, IsLeastSize, expressions, command_of, SomeHasLength}
use Rattle.sedck_script.proofs.ShortestLemmas.{least_or_cap}
use Rattle.sedck_script.proofs.expressions.shortest_of.Goals as goal

pub returns : goal.returns
returns c =
    let trees = expressions (map command_of c.args.commands.now) in
    subst (λ n. IsLeastSize (SomeHasLength trees) n) (sym c.unwrap_or.ensures) (least_or_cap trees c.least_of.result c.least_of.ensures)
