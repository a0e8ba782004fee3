-- What is told, and what is found, before it is put into words of C.
use Rattle.std.specs.Prelude.{◌≡◌, ℕ, List, length, Option, Some, None}
use Rattle.sedck_script.specs.Program.{Program}
use Rattle.sedck_script.specs.Spelling.{Spells}
use Rattle.sedck_commands.specs.declared.fault.ScriptFault.{ScriptFault}
use Rattle.sedck_commands.specs.declared.fault.ScriptFault.TheVariants as script
use Rattle.sedck_cert.specs.Ranked.{Accepts}
use Rattle.sedck_cert.specs.Headline.{IsLimit, IsScriptFaultOf}
use Rattle.sedck_cert.specs.Everywhere.{IsLimitEverywhere}
use Rattle.sedck_cert.specs.declared.checking.Verdict.{Verdict}
use Rattle.sedck_cert.specs.declared.checking.Verdict.TheVariants.{Accepted, Rejected}
use Rattle.sedck_cert.specs.declared.verifying.Judged.{Judged}
use Rattle.sedck_cert.specs.declared.verifying.Fault.{Fault}
use Rattle.sedck_cert.specs.declared.verifying.Fault.TheVariants as faults
use Rattle.std.specs.Io.KnownBytes.{Appends}
use Rattle.sedck_engines.specs.Engines.{OfScript, OfBytes, RanksTo}
use Rattle.sedck_engines.specs.declared.answer.Outcome.{Outcome}
use Rattle.sedck_engines.specs.declared.answer.RunFault.{RunFault}
use Rattle.sedck_engines.specs.declared.answer.RunFault.TheVariants as run
use Rattle.sedck_c.specs.Answers.{HasNone, bound_of, rejection_number, TellsScriptFault, TellsCertificateFault}
use Rattle.sedck_c.specs.declared.answer.Answer.{Answer}
use Rattle.sedck_c.specs.declared.certified.Certified.{Certified}

-- the answer tells this fault
abbrev pub TellsFault : Answer → Fault → Type 0
TellsFault a (faults.Script why) = TellsScriptFault a why
TellsFault a (faults.Certificate why) = TellsCertificateFault a why

-- the answer to a verdict
abbrev pub TellsVerdict : Answer → Judged → Verdict → Type 0
TellsVerdict a judged Accepted = (bound_of a ≡ judged.bound) × (a.reads ≡ length judged.cert.reads) × (a.writes ≡ length judged.cert.writes)
TellsVerdict a judged (Rejected why) = a.fault ≡ rejection_number why

abbrev pub TellsJudged : Answer → Judged → Type 0
TellsJudged a judged = TellsVerdict a judged judged.verdict

-- a certificate that is accepted, with the limit on the steps, or none
abbrev pub IsCertified : List ℕ → Option Certified → Type 0
IsCertified text None = HasNone text
IsCertified text (Some found) =
    OfScript text (λ p. Accepts p found.cert × IsLimit p found.cert found.bound × IsLimitEverywhere p found.bound)

-- the text spells no script, or memory ran out
abbrev pub IsRefusedAs : List ℕ → ScriptFault → Type 0
IsRefusedAs text script.OutOfMemory = Unit {0}
IsRefusedAs text why = ((p : Program) → ¬ Spells text p) × IsScriptFaultOf text why

abbrev pub IsRefusedBy : List ℕ → RunFault → Type 0
IsRefusedBy text (run.Script why) = (p : Program) → ¬ Spells text p
IsRefusedBy text (run.Certificate why) = ⊥
IsRefusedBy text _ = Unit {0}

-- ---- Where the bytes of the script may not be known

-- a report on some bytes, or on these, is appended
abbrev pub IsSearched : Option (List ℕ) → Option (List ℕ) → Option (List ℕ) → Outcome → Type 0
IsSearched bytes before after outcome = (report : List ℕ) × OfBytes bytes (λ text. RanksTo text outcome report) × Appends before after report

-- a refused script's bytes spell no script, and no certificate is refused
abbrev pub IsRefusedIn : Option (List ℕ) → RunFault → Type 0
IsRefusedIn bytes (run.Script why) = OfBytes bytes (λ text. (p : Program) → ¬ Spells text p)
IsRefusedIn bytes (run.Certificate why) = ⊥
IsRefusedIn bytes _ = Unit {0}
