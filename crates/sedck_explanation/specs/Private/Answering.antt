-- The steps to an answer.
use Rattle.std.specs.Prelude.{◌≡◌, ℕ, List, Option, Some, None}
use Rattle.sedck_script.specs.Program.{Program}
use Rattle.sedck_cert.specs.Certificate.{Certificate}
use Rattle.sedck_cert.specs.Versions.{SpellsCertificate, IsFaultIn}
use Rattle.sedck_cert.specs.Ranked.{Accepts}
use Rattle.sedck_cert.specs.Rejections.{IsRejection}
use Rattle.sedck_commands.specs.declared.fault.ScriptFault.TheVariants as script
use Rattle.sedck_cert.specs.Headline.{Only}
use Rattle.sedck_cert.specs.Limits.{AreLimits}
use Rattle.sedck_cert.specs.declared.limits.Limits.{Limits}
use Rattle.sedck_cert.specs.declared.reading.CertFault.TheVariants as cert
use Rattle.sedck_cert.specs.declared.verifying.Fault.{Fault}
use Rattle.sedck_cert.specs.declared.verifying.Fault.TheVariants as below
use Rattle.sedck_search.specs.Found.{IsLoop}
use Rattle.sedck_answer.specs.declared.answer.Answer.{Answer}
use Rattle.sedck_answer.specs.declared.answer.Answer.TheVariants.{ScriptRefused, CertificateRefused, Accepted, Rejected, Endless}

-- this certificate is accepted, with the script's limits
abbrev pub IsAcceptedAnswer : Program → Certificate → Answer → Type 0
IsAcceptedAnswer p c answer = (limits : Limits) × (answer ≡ Accepted c limits) × Accepts p c × AreLimits p c limits

-- the answer for a certificate's text
abbrev pub IsJudgedAnswer : Program → List ℕ → Answer → Type 0
IsJudgedAnswer p bytes (CertificateRefused why) = ((c : Certificate) → ¬ SpellsCertificate bytes c) × IsFaultIn bytes why
IsJudgedAnswer p bytes (Accepted cert limits) = Only SpellsCertificate bytes cert × Accepts p cert × AreLimits p cert limits
IsJudgedAnswer p bytes (Rejected cert why) = Only SpellsCertificate bytes cert × IsRejection p cert why
IsJudgedAnswer p bytes _ = ⊥

-- the answer of the search
abbrev pub IsFoundAnswer : Program → Answer → Type 0
IsFoundAnswer p (Accepted cert limits) = Accepts p cert × AreLimits p cert limits
IsFoundAnswer p (Endless walk) = IsLoop p walk
IsFoundAnswer p _ = ⊥

-- the answer for a text that is refused, and none where memory ran out
abbrev pub refusal : Fault → Option Answer
refusal (below.Script script.OutOfMemory) = None
refusal (below.Certificate cert.OutOfMemory) = None
refusal (below.Script why) = Some (ScriptRefused why)
refusal (below.Certificate why) = Some (CertificateRefused why)
