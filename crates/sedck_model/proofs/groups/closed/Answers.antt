use Rattle.sedck_model.proofs.Common.{arith}
use Rattle.sedck_model.proofs.GroupLemmas.{between_text, set_groups}
use Rattle.sedck_model.proofs.groups.closed.Goals as goal

pub returns-clause-groups : goal.returns-clause-groups
returns-clause-groups c text between =
    let start = c.args.start.now.at in
    let end = c.args.end.now.at in
    let part = between.part in
    set_groups text part.0 c.args.end.now.groups c.args.group (record { start = start; end = end }) (omega arith)
    (between_text text part.0 start end between.first between.last part.1)
