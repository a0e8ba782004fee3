-- What an engine makes of the bytes that it reads, where they are known, this project's own.
use Rattle.std.specs.Prelude.{◌≡◌, ◌≢◌, ℕ, Bool, IsTrue, List, take, Option, Some, None, Result, Ok, Err}
use Rattle.std.specs.Io.KnownBytes.{Keeps, Appends}
use Rattle.sedck_script.specs.Program.{Program}
use Rattle.sedck_script.specs.Spelling.{Spells}
use Rattle.sedck_commands.specs.declared.fault.ScriptFault.{ScriptFault}
use Rattle.sedck_commands.specs.declared.fault.ScriptFault.TheVariants as script
use Rattle.sedck_cert.specs.Certificate.{Certificate}
use Rattle.sedck_cert.specs.Text.{certificate_text}
use Rattle.sedck_cert.specs.Versions.{SpellsCertificate, IsFaultIn}
use Rattle.sedck_cert.specs.Headline.{Only, SpellBoth, IsVerdict, IsScriptFaultOf}
use Rattle.sedck_cert.specs.Streams.{AppendsPrefix}
use Rattle.sedck_cert.specs.declared.reading.CertFault.{CertFault}
use Rattle.sedck_cert.specs.declared.reading.CertFault.TheVariants as cert
use Rattle.sedck_cert.specs.declared.checking.Verdict.{Verdict}
use Rattle.sedck_cert.specs.declared.checking.Verdict.TheVariants.{Accepted, Rejected}
use Rattle.sedck_engines.specs.declared.answer.Outcome.{Outcome}
use Rattle.sedck_engines.specs.declared.answer.Outcome.TheVariants.{Yes, No}
use Rattle.sedck_engines.specs.declared.answer.RunFault.{RunFault}
use Rattle.sedck_engines.specs.declared.answer.RunFault.TheVariants as fault
use Rattle.sedck_engines.specs.declared.answer.Input.TheVariants as input
use Rattle.sedck_engines.specs.declared.engines.ScriptReport.{ScriptReport}
use Rattle.sedck_engines.specs.declared.engines.ScriptReport.TheVariants as kind
use Rattle.sedck_engines.specs.Reports.{IsCheckReport, IsFilesReport, IsGraphReport, IsRankReport}
use Rattle.sedck_search.specs.declared.answer.Found.{Found}
use Rattle.sedck_search.specs.declared.answer.Found.TheVariants.{Ranks, Loop}

-- ---- Reports with their outcomes

-- yes for an accepted certificate
abbrev pub verdict_outcome : Verdict → Outcome
verdict_outcome Accepted = Yes
verdict_outcome (Rejected why) = No

-- the report of a check of these bytes, and its outcome
abbrev pub ChecksTo : List ℕ → List ℕ → Outcome → List ℕ → Type 0
ChecksTo text bytes outcome report = (verdict : Verdict) × (outcome ≡ verdict_outcome verdict)
    × SpellBoth text bytes (λ p c. IsVerdict p c verdict × IsCheckReport p c verdict report)

-- the same where the script alone is read
pub record OfScript (text : List ℕ) (Holds : Program → Type 0) : Type 0 where
  pub program : Program
  pub spelled : Only Spells text program
  pub holds : Holds program

abbrev pub ListsFilesTo : List ℕ → Outcome → List ℕ → Type 0
ListsFilesTo text outcome report = (outcome ≡ Yes) × OfScript text (λ p. IsFilesReport p report)

abbrev pub ListsGraphTo : List ℕ → Outcome → List ℕ → Type 0
ListsGraphTo text outcome report = (outcome ≡ Yes) × OfScript text (λ p. IsGraphReport p report)

-- yes for ranks, and no for a loop
abbrev pub found_outcome : Found → Outcome
found_outcome (Ranks cert) = Yes
found_outcome (Loop walk) = No

abbrev pub RanksTo : List ℕ → Outcome → List ℕ → Type 0
RanksTo text outcome report = (found : Found) × (outcome ≡ found_outcome found) × OfScript text (λ p. IsRankReport p found report)

-- by the report that is asked for
abbrev pub ReportsScriptTo : ScriptReport → List ℕ → Outcome → List ℕ → Type 0
ReportsScriptTo kind.Files text outcome report = ListsFilesTo text outcome report
ReportsScriptTo kind.Graph text outcome report = ListsGraphTo text outcome report
ReportsScriptTo kind.Rank text outcome report = RanksTo text outcome report

-- the same where the certificate alone is read
pub record OfCertificate (bytes : List ℕ) (Holds : Certificate → Type 0) : Type 0 where
  pub cert : Certificate
  pub written : Only SpellsCertificate bytes cert
  pub holds : Holds cert

-- the text of the certificate that is read
abbrev pub UpgradesTo : List ℕ → Outcome → List ℕ → Type 0
UpgradesTo bytes outcome report = (outcome ≡ Yes) × OfCertificate bytes (λ c. report ≡ certificate_text c)

-- ---- Refusals

-- the text spells no script, and this is its fault
pub record IsRefusedScript (text : List ℕ) (why : ScriptFault) : Type 0 where
  pub is_of_text : why ≢ script.OutOfMemory
  pub none : (p : Program) → ¬ Spells text p
  pub is_fault : IsScriptFaultOf text why

-- what is read of a certificate's bytes: more than any certificate has
abbrev pub certificate_read : List ℕ → List ℕ
certificate_read bytes = take 1572865 bytes

-- the bytes spell no certificate, and this is the fault of their first wrong line
pub record IsRefusedCertificate (bytes : List ℕ) (why : CertFault) : Type 0 where
  pub is_of_text : why ≢ cert.OutOfMemory
  pub none : (c : Certificate) → ¬ SpellsCertificate bytes c
  pub is_fault : IsFaultIn (certificate_read bytes) why

-- ---- An engine's answer

-- an input: the bytes that its reads give, where they are known, and whether a read has failed
pub record Reading : Type 0 where
  pub bytes : Option (List ℕ)
  pub failed : Bool

-- the output: the bytes taken before and after, where they are known, and whether a write has failed
pub record Writing : Type 0 where
  pub before : Option (List ℕ)
  pub after : Option (List ℕ)
  pub failed : Bool

-- an engine's streams: it reads a script, a certificate, or both
pub record Streams : Type 0 where
  pub script : Option Reading
  pub certificate : Option Reading
  pub out : Writing

-- of the known bytes, or, where they aren't known, of some bytes
abbrev pub OfBytes : Option (List ℕ) → (List ℕ → Type 0) → Type 0
OfBytes None Holds = (text : List ℕ) × Holds text
OfBytes (Some text) Holds = Holds text

-- the input is read, and this holds of it
abbrev pub OfInput : Option Reading → (Reading → Type 0) → Type 0
OfInput None Holds = ⊥
OfInput (Some reading) Holds = Holds reading

-- a script that is read is one
abbrev pub IsScript : Option Reading → Type 0
IsScript None = Unit {0}
IsScript (Some script) = OfBytes script.bytes (λ text. (p : Program) × Spells text p)

-- The whole report is written; after a failed write a prefix of one is, and after any other fault nothing is. A fault says
-- what is wrong with the bytes that were read, or which stream has failed.
abbrev pub EngineAnswers : Streams → (Outcome → List ℕ → Type 0) → Result Outcome RunFault → Type 0
EngineAnswers s IsReport (Ok outcome) = (report : List ℕ) × IsReport outcome report × Appends s.out.before s.out.after report
EngineAnswers s IsReport (Err (fault.Script why)) = Keeps s.out.before s.out.after
    × OfInput s.script (λ script. OfBytes script.bytes (λ text. IsRefusedScript text why))
EngineAnswers s IsReport (Err (fault.Certificate why)) = Keeps s.out.before s.out.after
    × IsScript s.script × OfInput s.certificate (λ c. OfBytes c.bytes (λ bytes. IsRefusedCertificate bytes why))
EngineAnswers s IsReport (Err (fault.Read input.Script)) = Keeps s.out.before s.out.after × OfInput s.script (λ script. IsTrue script.failed)
EngineAnswers s IsReport (Err (fault.Read input.Certificate)) = Keeps s.out.before s.out.after × OfInput s.certificate (λ c. IsTrue c.failed)
EngineAnswers s IsReport (Err fault.Write) = IsTrue s.out.failed
    × ((outcome : Outcome) × (report : List ℕ) × IsReport outcome report × AppendsPrefix s.out.before s.out.after report)
EngineAnswers s IsReport (Err fault.OutOfMemory) = Keeps s.out.before s.out.after
