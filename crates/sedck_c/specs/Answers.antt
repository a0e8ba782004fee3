-- What a caller in C is told, this project's own (library/sedck.h).
use Rattle.std.specs.Prelude.{◌≡◌, ◌≢◌, ◌⊎◌, ℕ, ◌<◌, List, length, take, Option, Some, None, if◌then◌else◌}
use Rattle.sedck_script.specs.Program.{Program}
use Rattle.sedck_script.specs.Spelling.{Spells}
use Rattle.sedck_commands.specs.FaultWords.{fault_number, fault_place}
use Rattle.sedck_commands.specs.declared.fault.ScriptFault.{ScriptFault}
use Rattle.sedck_commands.specs.declared.fault.ScriptFault.TheVariants.{OutOfMemory}
use Rattle.sedck_cert.specs.Certificate.{Certificate}
use Rattle.sedck_cert.specs.Text.{files_text, file_lists}
use Rattle.sedck_cert.specs.Ranked.{Accepts}
use Rattle.sedck_cert.specs.Faults.{line_of}
use Rattle.sedck_cert.specs.FaultText.{number_of}
use Rattle.sedck_cert.specs.Versions.{IsFaultIn}
use Rattle.sedck_cert.specs.Headline.{Only, SpellBoth, IsSafe, IsLimit, IsScriptFaultOf}
use Rattle.sedck_cert.specs.Everywhere.{IsSafeEverywhere, IsLimitEverywhere}
use Rattle.sedck_cert.specs.Rejections.{IsRejection}
use Rattle.sedck_cert.specs.declared.limits.Bound.{Bound}
use Rattle.sedck_cert.specs.declared.reading.CertFault.{CertFault}
use Rattle.sedck_cert.specs.declared.checking.Rejection.{Rejection}
use Rattle.sedck_cert.specs.declared.checking.Rejection.TheVariants.{WrongCount, StartUnranked, LeavesRanked, NotLowered, ReadsDiffer, WritesDiffer}
use Rattle.sedck_engines.specs.Engines.{OfScript, RanksTo}
use Rattle.sedck_engines.specs.declared.answer.Outcome.{Outcome}
use Rattle.sedck_c.specs.declared.answer.Answer.{Answer}

-- ---- A script by itself

-- the text spells a script for which, with some certificate, this holds
pub record HasOne (text : List ℕ) (Holds : Program → Certificate → Type 0) : Type 0 where
  pub program : Program
  pub spelled : Only Spells text program
  pub cert : Certificate
  pub holds : Holds program cert

-- the text spells a script for which no certificate is accepted
abbrev pub HasNone : List ℕ → Type 0
HasNone text = OfScript text (λ p. (c : Certificate) → ¬ Accepts p c)

-- ---- Texts that are put into the caller's room

-- the text stands at the beginning of the room, unless that is empty
abbrev pub IsPut : List ℕ → List ℕ → Type 0
IsPut text room = (length room ≡ 0) ⊎ (take (length text) room ≡ text)

-- there is some room, but less than is needed, and it is as it was
pub record IsTooSmall (before after : List ℕ) (needed : ℕ) : Type 0 where
  pub some : 0 < length before
  pub small : length before < needed
  pub kept : after ≡ before

-- such a report is put, and its length told
abbrev pub Gives : (List ℕ → Type 0) → List ℕ → ℕ → Type 0
Gives IsReport room needed = (report : List ℕ) × IsReport report × (needed ≡ length report) × IsPut report room

-- the names that a certificate lists, as `sedck files` prints them
abbrev pub lists_of : Certificate → List ℕ
lists_of c = files_text c.reads c.writes

-- these are put, and their length told
abbrev pub IsListed : Certificate → List ℕ → ℕ → Type 0
IsListed c room needed = (needed ≡ length (lists_of c)) × IsPut (lists_of c) room

-- ---- Answers

-- the limit on the steps, if the answer tells one
abbrev pub bound_of : Answer → Option Bound
bound_of a = if a.bounded then Some (record { per_byte = a.per_byte; per_line = a.per_line; fixed = a.fixed }) else None

-- the answer tells the limit on the steps, where there is one, and how many files are listed
pub record IsLimited (a : Answer) (p : Program) (c : Certificate) : Type 0 where
  pub limit : IsLimit p c (bound_of a)
  pub everywhere : IsLimitEverywhere p (bound_of a)
  pub reads : a.reads ≡ length c.reads
  pub writes : a.writes ≡ length c.writes

-- What the caller gets of one certificate that is accepted: the script's runs end, their files are in the lists that are put, and the answer
-- tells its limit and the lengths of its lists.
pub record IsTold (a : Answer) (room : List ℕ) (needed : ℕ) (p : Program) (c : Certificate) : Type 0 where
  pub accepts : Accepts p c
  pub safe : IsSafe p (file_lists c)
  pub everywhere : IsSafeEverywhere p (file_lists c)
  pub listed : IsListed c room needed
  pub limited : IsLimited a p c

-- the lists of one that is accepted need so much room
abbrev pub IsNeeded : List ℕ → ℕ → Type 0
IsNeeded text needed = HasOne text (λ p c. Accepts p c × (needed ≡ length (lists_of c)))

-- so does the certificate or the loop that `sedck rank` prints
abbrev pub IsNeededToRank : List ℕ → ℕ → Type 0
IsNeededToRank text needed = (outcome : Outcome) × (report : List ℕ) × RanksTo text outcome report × (needed ≡ length report)

-- the number of a reason, as the program prints it
abbrev pub rejection_number : Rejection → ℕ
rejection_number WrongCount = 1
rejection_number StartUnranked = 2
rejection_number (LeavesRanked e) = 3
rejection_number (NotLowered e) = 4
rejection_number ReadsDiffer = 5
rejection_number WritesDiffer = 6

-- the answer tells why the certificate is rejected
abbrev pub TellsReason : List ℕ → List ℕ → Answer → Type 0
TellsReason script certificate a = (why : Rejection) × (a.fault ≡ rejection_number why) × SpellBoth script certificate (λ p c. IsRejection p c why)

abbrev pub or_zero : Option ℕ → ℕ
or_zero None = 0
or_zero (Some place) = place

-- the answer tells this fault
pub record TellsScriptFault (a : Answer) (why : ScriptFault) : Type 0 where
  pub text : a.text ≡ 1
  pub number : a.fault ≡ fault_number why
  pub place : a.place ≡ or_zero (fault_place why)

pub record TellsCertificateFault (a : Answer) (why : CertFault) : Type 0 where
  pub text : a.text ≡ 2
  pub number : a.fault ≡ number_of why
  pub line : a.place ≡ or_zero (line_of why)

-- the answer tells the first fault of the script
abbrev pub TellsScriptFaultOf : List ℕ → Answer → Type 0
TellsScriptFaultOf script a = (why : ScriptFault) × TellsScriptFault a why × (why ≢ OutOfMemory) × IsScriptFaultOf script why

-- the answer tells a fault of the certificate
abbrev pub TellsCertificateFaultOf : List ℕ → Answer → Type 0
TellsCertificateFaultOf certificate a = (why : CertFault) × TellsCertificateFault a why × IsFaultIn certificate why

-- the answer tells a fault of the script, or, where that is one, of the certificate
abbrev pub TellsFaultOf : List ℕ → List ℕ → Answer → Type 0
TellsFaultOf script certificate a = TellsScriptFaultOf script a ⊎ (((p : Program) × Spells script p) × TellsCertificateFaultOf certificate a)
