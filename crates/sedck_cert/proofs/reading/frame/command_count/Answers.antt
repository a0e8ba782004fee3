use Rattle.sedck_cert.proofs.Common.{refl, codes, Count, Stops}
use Rattle.sedck_cert.proofs.LineLemmas.{wrong_count, stops_here, refused_or}
use Rattle.sedck_cert.proofs.reading.frame.command_count.Goals as goal

pub returns-clause-refused : goal.returns-clause-refused
returns-clause-refused c = rw c.ok_or.ensures.value (refused_or (Stops c.args.version Count c.args.lines.now) _ c.next_count.result _ c.next_count.ensures (λ none.
    stops_here c.args.version Count _ _ (wrong_count c.args.version Count _ (codes "commands ") (λ text next due. (due.0, due.1, due.2)) none) refl))
