-- What an answer says by itself, this project's own: its status, and that nothing is kept of a script.
use Rattle.std.specs.Prelude.{◌≡◌, [], None}
use Rattle.sedck_answer.specs.Status.{Status}
use Rattle.sedck_answer.specs.declared.status.Status.TheVariants as exit
use Rattle.sedck_answer.specs.declared.answer.Answer.{Answer}
use Rattle.sedck_answer.specs.declared.answer.Answer.TheVariants.{ScriptRefused, CertificateRefused, Accepted, Rejected, Endless, NotJudged}
use Rattle.sedck_answer.specs.declared.explanation.Explanation.{Explanation}

-- the exit status
abbrev pub status_of : Answer → Status
status_of (Accepted cert limits) = exit.Accepted
status_of (Rejected cert why) = exit.Rejected
status_of (Endless walk) = exit.Rejected
status_of (ScriptRefused why) = exit.Refused
status_of (CertificateRefused why) = exit.Refused
status_of NotJudged = exit.Refused

-- nothing is kept
pub record KeepsNothing (e : Explanation) : Type 0 where
  pub script : e.script ≡ None
  pub reads : e.reads.items ≡ []
  pub writes : e.writes.items ≡ []
  pub positions : e.positions.items ≡ []
