use Rattle.sedck_cert.proofs.Common.{refl, codes, arith, ◌<◌, length, Last, Nothing}
use Rattle.sedck_cert.proofs.LineLemmas.{wrong_word, stops_here, leads_one, leads_stops}
use Rattle.sedck_cert.proofs.reading.frame.ending.Goals as goal

pub returns-then-not-next_is-clause-refused : goal.returns-then-not-next_is-clause-refused
returns-then-not-next_is-clause-refused c v = stops_here v Last _ _ (wrong_word v Last _ _ (λ text next due. due.0) c.if-not-next_is.ensures.other) refl

-- something is after the last line
pub returns-then-not-is_empty-clause-refused : goal.returns-then-not-is_empty-clause-refused
returns-then-not-is_empty-clause-refused c v =
    let some : 0 < length c.next_is.new.lines.rest.now = grind (arith, c.if-not-is_empty.ensures) in
    leads_stops (leads_one v Last Nothing (codes "end") c.if-not-next_is.ensures.same (refl, refl))
    (stops_here v Nothing _ _ some refl)
