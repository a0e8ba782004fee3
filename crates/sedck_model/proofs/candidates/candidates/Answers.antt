use Rattle.sedck_model.proofs.Common.{◌≡◌, map, ap, IfOk-weaker, expressions, pattern_of, command_of, trees_in}
use Rattle.sedck_model.proofs.SelectLemmas.{previous_stands}
use Rattle.sedck_model.proofs.candidates.candidates.Goals as goal

-- an empty pattern
pub returns-in-Previous : goal.returns-in-Previous
returns-in-Previous c =
    IfOk-weaker c.all_of.result (λ found. trees_in found.items ≡ expressions (map command_of c.commands.result.now)) _ (λ found are.
    previous_stands c.args.script.now _ (pattern_of c.args.pattern.now) (trees_in found.items) (ap pattern_of c.in-Previous.is)
    c.commands.ensures.commands are) c.all_of.ensures
