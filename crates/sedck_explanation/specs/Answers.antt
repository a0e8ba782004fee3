-- What the engines answer of a script's text, alone or with a certificate's, this project's own: the verdict of `judge`, or what
-- `search` finds.
use Rattle.std.specs.Prelude.{◌≡◌, ◌≢◌, ℕ, List, Option, Some, None}
use Rattle.sedck_script.specs.Program.{Program}
use Rattle.sedck_script.specs.Spelling.{Spells}
use Rattle.sedck_commands.specs.declared.fault.ScriptFault.TheVariants.{OutOfMemory}
use Rattle.sedck_cert.specs.Certificate.{Certificate}
use Rattle.sedck_cert.specs.Versions.{SpellsCertificate, IsFaultIn}
use Rattle.sedck_cert.specs.Ranked.{Accepts}
use Rattle.sedck_cert.specs.Rejections.{IsRejection}
use Rattle.sedck_cert.specs.Headline.{Only, SpellBoth, IsScriptFaultOf}
use Rattle.sedck_cert.specs.Limits.{AreLimits}
use Rattle.sedck_search.specs.Found.{IsLoop}
use Rattle.sedck_answer.specs.declared.answer.Answer.{Answer}
use Rattle.sedck_answer.specs.declared.answer.Answer.TheVariants.{ScriptRefused, CertificateRefused, Accepted, Rejected, Endless, NotJudged}

-- the text spells one script alone, for which this holds
abbrev pub SpellsOneWith : List ℕ → (Program → Type 0) → Type 0
SpellsOneWith text Holds = (p : Program) × Only Spells text p × Holds p

-- the answer for a script's text and a certificate's text, where there is one
abbrev pub IsAnswer : List ℕ → Option (List ℕ) → Answer → Type 0
IsAnswer text given (ScriptRefused why) = (why ≢ OutOfMemory) × ((p : Program) → ¬ Spells text p) × IsScriptFaultOf text why
IsAnswer text (Some bytes) (CertificateRefused why) =
    ((p : Program) × Spells text p) × ((c : Certificate) → ¬ SpellsCertificate bytes c) × IsFaultIn bytes why
IsAnswer text None (CertificateRefused why) = ⊥
IsAnswer text (Some bytes) (Accepted cert limits) = SpellBoth text bytes (λ p c. (c ≡ cert) × Accepts p c × AreLimits p c limits)
IsAnswer text None (Accepted cert limits) = SpellsOneWith text (λ p. Accepts p cert × AreLimits p cert limits)
IsAnswer text (Some bytes) (Rejected cert why) = SpellBoth text bytes (λ p c. (c ≡ cert) × IsRejection p c why)
IsAnswer text None (Rejected cert why) = ⊥
IsAnswer text (Some bytes) (Endless walk) = ⊥
IsAnswer text None (Endless walk) = SpellsOneWith text (λ p. IsLoop p walk)
IsAnswer text given NotJudged = ⊥
