use Rattle.std.proofs.lemmas.Map.Text.{hash_map_updates_str}
use Rattle.sedck_commands.proofs.labels.add_label.Goals as goal

pub returns-clause-ok : goal.returns-clause-ok
returns-clause-ok c = hash_map_updates_str c.args.name.now c.args.labels.now c.insert.new.self _ c.in_ok-insert.ensures.updates
