use Rattle.sedck_commands.proofs.Common.{◌≡◌, true, has_previous, written_patterns, written_verb, rules}
use Rattle.sedck_commands.proofs.EmptyPlaces.{emptied_verb}
use Rattle.sedck_commands.proofs.commands.empty_verb.Goals as goal

pub returns-in-Previous : goal.returns-in-Previous
returns-in-Previous c = λ size begins rest read at.
    let some : has_previous (written_patterns (written_verb c.args.verb.now)) ≡ true = search rules in
    emptied_verb size c.args.behind at read some
