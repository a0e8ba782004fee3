use Rattle.sedck_locales.proofs.WrittenPrograms.{written_same}
use Rattle.sedck_locales.proofs.laws.spelled_same_is_written_alike.Goals as goal

pub returns : goal.returns
returns c = λ script text h q. let both = written_same script text h q in (both.0, both.1)
