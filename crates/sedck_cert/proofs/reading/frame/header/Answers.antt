use Rattle.sedck_cert.proofs.Common.{refl, Header}
use Rattle.sedck_cert.proofs.LineLemmas.{wrong_word, stops_here}
use Rattle.sedck_cert.proofs.reading.frame.header.Goals as goal

pub returns-else-next_is-clause-refused : goal.returns-else-next_is-clause-refused
returns-else-next_is-clause-refused c = stops_here c.args.version Header _ _ (wrong_word c.args.version Header _ _ (λ text next due. due.0) (rw c.header.ensures at c.if-next_is.ensures.other)) refl
