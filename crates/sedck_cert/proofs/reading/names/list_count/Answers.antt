use Rattle.sedck_cert.proofs.Common.{ℕ, refl, Names, list_word, Stops, Version}
use Rattle.sedck_cert.proofs.LineLemmas.{wrong_count, stops_here, refused_or}
use Rattle.sedck_cert.proofs.reading.names.list_count.Goals as goal

pub returns-clause-refused : goal.returns-clause-refused
returns-clause-refused c = rw c.ok_or.ensures.value
    (refused_or (λ fault. (v : Version) (size : ℕ) → Stops v (Names c.args.files size) c.args.lines.now fault) _ c.next_count.result _ c.next_count.ensures (λ why v size.
    stops_here v (Names c.args.files size) _ _ (wrong_count v (Names c.args.files size) _ (list_word c.args.files)
    (λ text next due. (due.0, due.1, due.2)) (rw c.word.ensures at why)) refl))
