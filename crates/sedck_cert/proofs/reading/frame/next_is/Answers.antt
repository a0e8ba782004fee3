use Rattle.sedck_cert.proofs.Common.{ℕ, List, Bool, true, false, ◌≡◌, ◌≢◌, OnFalse, IsCut, MatchBool, told_text}
use Rattle.sedck_cert.proofs.CutLemmas.{cut_one}
use Rattle.sedck_cert.proofs.LineLemmas.{no_cut}
use Rattle.sedck_cert.proofs.reading.frame.next_is.Goals as goal

other : (rest line more text : List ℕ) (r : Bool) → IsCut 10 rest line more → MatchBool r (line ≡ text) (line ≢ text)
    → OnFalse r ((behind : List ℕ) → IsCut 10 rest text behind → ⊥)
other rest line more text true cut test = tt
other rest line more text false cut test = λ behind h. test (cut_one 10 rest line more text behind cut h).0

pub returns-in-Some-clause-other : goal.returns-in-Some-clause-other
returns-in-Some-clause-other c = other _ _ _ _ c.eq.result c.in-Some.ensures.text (told_text _ _ c.eq.result c.eq.ensures)

pub returns-in-None-clause-other : goal.returns-in-None-clause-other
returns-in-None-clause-other c more cut = no_cut _ _ more c.in-None.ensures.text cut
