-- From what an engine answers to the program's status and output.
use Rattle.std.proofs.Common.{◌≡◌, ◌⊎◌, ◌<◌, ℕ, true, List, Option, Some, None, IfSome, Ok, Err, refl, inl, inr, lit<, subst, arith}
use Rattle.std.specs.Prelude.{IsTrue}
use Rattle.std.specs.Io.KnownBytes.{Keeps, Appends}
use Rattle.sedck_engines.specs.declared.answer.Outcome.{Outcome}
use Rattle.sedck_engines.specs.declared.answer.Outcome.TheVariants.{No}
use Rattle.sedck_engines.specs.declared.answer.Input.TheVariants as input
use Rattle.sedck_engines.specs.declared.answer.RunFault.{RunFault}
use Rattle.sedck_engines.specs.declared.answer.RunFault.TheVariants as fault
use Rattle.sedck_cli.specs.declared.command_line.Refusal.{Refusal}
use Rattle.sedck_cli.specs.declared.command_line.Refusal.TheVariants.{Usage, Run}
use Rattle.sedck_commands.specs.Program.{Program}
use Rattle.sedck_script.specs.Spelling.{Spells}
use Rattle.sedck_engines.specs.Opened.{Known}
use Rattle.sedck_engines.specs.Engines.{ReportsScriptTo, ChecksTo, ListsFilesTo, ListsGraphTo, RanksTo, UpgradesTo, EngineAnswers, Reading, Writing, OfBytes, OfInput, IsScript, IsRefusedScript, IsRefusedCertificate}
use Rattle.sedck_cli.specs.Causes.{OfPath, IsOpened, AreOpened, IsUnread, IsCause}
use Rattle.sedck_engines.specs.declared.engines.ScriptReport.{ScriptReport}
use Rattle.sedck_engines.specs.declared.engines.ScriptReport.TheVariants.{Files, Graph, Rank}
use Rattle.sedck_cli.specs.Statuses.{status_of, Asked, Check, Files as the_files, Graph as the_graph, Rank as the_rank, Upgrade, Nothing, script_of, certificate_of, MayBeNo, IsReportFor, Reports, BreaksOff}
use Rattle.sedck_cli.specs.Private.Requests.{report_asked, IsReadingAt, Leaves}

-- ---- Reports of what was asked for

-- what holds of the bytes that a reading has holds of those that are known of its file
of_known : (known left : Option (List ℕ)) (Holds : List ℕ → Type 0) → IfSome known (λ bytes. left ≡ Some bytes) → OfBytes left Holds → OfBytes known Holds
of_known None None Holds is holds = holds
of_known None (Some text) Holds is holds = (text, holds)
of_known (Some bytes) left Holds is holds = subst (λ l. OfBytes l Holds) is holds

-- what an engine calls its report is one
abbrev pub AreReports : Known → Asked → (Outcome → List ℕ → Type 0) → Type 0
AreReports k asked IsReport = (outcome : Outcome) (report : List ℕ) → IsReport outcome report → IsReportFor k asked outcome report

-- a reading's bytes are those that are known of the file
abbrev pub IsBytesAt : Known → List ℕ → Option (List ℕ) → Type 0
IsBytesAt k path left = IfSome (k.bytes_at path) (λ bytes. left ≡ Some bytes)

pub of_check : (k : Known) (script_path cert_path : List ℕ) (script cert : Option (List ℕ)) → IsBytesAt k script_path script → IsBytesAt k cert_path cert
    → AreReports k (Check script_path cert_path) (λ outcome report. OfBytes script (λ text. OfBytes cert (λ bytes. ChecksTo text bytes outcome report)))
of_check k script_path cert_path script cert is are outcome report holds =
    let OfCert : List ℕ → Type 0 = λ text. OfBytes (k.bytes_at cert_path) (λ bytes. ChecksTo text bytes outcome report) in
    of_known (k.bytes_at script_path) script OfCert is
    (of_each script (λ text. OfBytes cert (λ bytes. ChecksTo text bytes outcome report)) OfCert
    (λ text. of_known (k.bytes_at cert_path) cert (λ bytes. ChecksTo text bytes outcome report) are) holds)
  where
    of_each : (known : Option (List ℕ)) (P Q : List ℕ → Type 0) → ((text : List ℕ) → P text → Q text) → OfBytes known P → OfBytes known Q
    of_each None P Q f h = (h.0, f h.0 h.1)
    of_each (Some text) P Q f h = f text h

pub of_report : (k : Known) (kind : ScriptReport) (path : List ℕ) (script : Option (List ℕ)) → IsBytesAt k path script
    → AreReports k (report_asked kind path) (λ outcome report. OfBytes script (λ text. ReportsScriptTo kind text outcome report))
of_report k Files path script is outcome report holds = of_known (k.bytes_at path) script (λ text. ListsFilesTo text outcome report) is holds
of_report k Graph path script is outcome report holds = of_known (k.bytes_at path) script (λ text. ListsGraphTo text outcome report) is holds
of_report k Rank path script is outcome report holds = of_known (k.bytes_at path) script (λ text. RanksTo text outcome report) is holds

pub of_upgrade : (k : Known) (path : List ℕ) (cert : Option (List ℕ)) → IsBytesAt k path cert
    → AreReports k (Upgrade path) (λ outcome report. OfBytes cert (λ bytes. UpgradesTo bytes outcome report))
of_upgrade k path cert is outcome report holds = of_known (k.bytes_at path) cert (λ bytes. UpgradesTo bytes outcome report) is holds

-- ---- Readings

abbrev pub AreReadings : Known → Asked → Option Reading → Option Reading → Type 0
AreReadings k asked script certificate = IsReadingAt k (script_of asked) script × IsReadingAt k (certificate_of asked) certificate

-- a report reads its script alone
pub report_readings : (k : Known) (kind : ScriptReport) (path : List ℕ) (reading : Reading) → IsReadingAt k (Some path) (Some reading)
    → AreReadings k (report_asked kind path) (Some reading) None
report_readings k Files path reading is = (is, tt {0})
report_readings k Graph path reading is = (is, tt {0})
report_readings k Rank path reading is = (is, tt {0})

is_opened : (k : Known) (path : Option (List ℕ)) (reading : Option Reading) → IsReadingAt k path reading → IfSome path (IsOpened k)
is_opened k None None is = tt {0}
is_opened k None (Some reading) is = absurd is
is_opened k (Some path) None is = absurd is
is_opened k (Some path) (Some reading) is = is.0

are_opened : (k : Known) (asked : Asked) (script certificate : Option Reading) → AreReadings k asked script certificate → AreOpened k asked
are_opened k asked script certificate are = (is_opened k (script_of asked) script are.0, is_opened k (certificate_of asked) certificate are.1)

-- what holds of a reading's bytes
at_path : (k : Known) (path : Option (List ℕ)) (reading : Option Reading) (Holds : List ℕ → Type 0) → IsReadingAt k path reading
    → OfInput reading (λ r. OfBytes r.bytes Holds) → OfPath path (λ p. OfBytes (k.bytes_at p) Holds)
at_path k None None Holds is holds = holds
at_path k None (Some reading) Holds is holds = absurd is
at_path k (Some path) None Holds is holds = absurd is
at_path k (Some path) (Some reading) Holds is holds = of_known (k.bytes_at path) reading.bytes Holds is.1 holds

script_at_path : (k : Known) (path : Option (List ℕ)) (reading : Option Reading) → IsReadingAt k path reading → IsScript reading
    → IfSome path (λ p. OfBytes (k.bytes_at p) (λ text. (q : Program) × Spells text q))
script_at_path k None None is holds = tt {0}
script_at_path k None (Some reading) is holds = absurd is
script_at_path k (Some path) None is holds = absurd is
script_at_path k (Some path) (Some reading) is holds =
    of_known (k.bytes_at path) reading.bytes (λ text. (q : Program) × Spells text q) is.1 holds

-- a read that failed
unread_at : (k : Known) (asked : Asked) (path : Option (List ℕ)) (reading : Option Reading) → AreOpened k asked → IsReadingAt k path reading
    → OfInput reading (λ r. IsTrue r.failed) → OfPath path (IsUnread k asked)
unread_at k asked None None opened is failed = failed
unread_at k asked None (Some reading) opened is failed = absurd is
unread_at k asked (Some path) None opened is failed = absurd is
unread_at k asked (Some path) (Some reading) opened is failed = inr (opened, is.2 failed)

-- ---- Answers

-- an engine's answer
pub answered : (k : Known) (asked : Asked) (IsReport : Outcome → List ℕ → Type 0) (script certificate : Option Reading) (out : Writing)
    (outcome : Outcome) → AreReadings k asked script certificate → AreReports k asked IsReport
    → ((report : List ℕ) × IsReport outcome report × Appends out.before out.after report) → Leaves k asked out (Ok outcome)
answered k asked IsReport script certificate out outcome read are is =
    (are_opened k asked script certificate read, (is.0, are outcome is.0 is.1, is.2))

-- an engine's fault
pub stopped : (k : Known) (asked : Asked) (IsReport : Outcome → List ℕ → Type 0) (script certificate : Option Reading) (out : Writing)
    (why : RunFault) → AreReadings k asked script certificate → AreReports k asked IsReport
    → EngineAnswers (record { script = script; certificate = certificate; out = out }) IsReport (Err why) → Leaves k asked out (Err (Run why))
stopped k asked IsReport script certificate out (fault.Script why) read are is =
    ((are_opened k asked script certificate read, at_path k (script_of asked) script (λ text. IsRefusedScript text why) read.0 is.1), is.0)
stopped k asked IsReport script certificate out (fault.Certificate why) read are is = (
  (
    are_opened k asked script certificate read,
    script_at_path k (script_of asked) script read.0 is.1,
    at_path k (certificate_of asked) certificate (λ bytes. IsRefusedCertificate bytes why) read.1 is.2,
  ),
  is.0,
)
stopped k asked IsReport script certificate out (fault.Read input.Script) read are is =
    (unread_at k asked (script_of asked) script (are_opened k asked script certificate read) read.0 is.1, is.0)
stopped k asked IsReport script certificate out (fault.Read input.Certificate) read are is = (
  (
    is_opened k (script_of asked) script read.0,
    unread_at k asked (certificate_of asked) certificate (are_opened k asked script certificate read) read.1 is.1,
  ),
  is.0,
)
stopped k asked IsReport script certificate out fault.Write read are is =
    ((are_opened k asked script certificate read, is.0), (is.1.0, is.1.1, are is.1.0 is.1.1 is.1.2, is.1.3))
stopped k asked IsReport script certificate out fault.OutOfMemory read are is = (tt {0}, is)

-- an open file at a path, and a reading of it
pub record IsOpen (k : Known) (path : List ℕ) (reading : Reading) : Type 0 where
  pub opened : k.may_open path true
  pub bytes : IfSome (k.bytes_at path) (λ bytes. reading.bytes ≡ Some bytes)
  pub failing : IsTrue reading.failed → k.may_fail

pub check_stopped : (k : Known) (s c : List ℕ) (script cert : Reading) (out : Writing) (why : RunFault)
    → EngineAnswers (record { script = Some script; certificate = Some cert; out = out })
    (λ outcome report. OfBytes script.bytes (λ text. OfBytes cert.bytes (λ bytes. ChecksTo text bytes outcome report))) (Err why)
    → IsOpen k s script → IsOpen k c cert → Leaves k (Check s c) out (Err (Run why))
check_stopped k s c script cert out why is a b =
    stopped k (Check s c) _ (Some script) (Some cert) out why ((a.opened, a.bytes, a.failing), (b.opened, b.bytes, b.failing))
    (of_check k s c script.bytes cert.bytes a.bytes b.bytes) is

pub check_answered : (k : Known) (s c : List ℕ) (script cert : Reading) (out : Writing) (outcome : Outcome)
    → EngineAnswers (record { script = Some script; certificate = Some cert; out = out })
    (λ outcome report. OfBytes script.bytes (λ text. OfBytes cert.bytes (λ bytes. ChecksTo text bytes outcome report))) (Ok outcome)
    → IsOpen k s script → IsOpen k c cert → Leaves k (Check s c) out (Ok outcome)
check_answered k s c script cert out outcome is a b =
    answered k (Check s c) _ (Some script) (Some cert) out outcome ((a.opened, a.bytes, a.failing), (b.opened, b.bytes, b.failing))
    (of_check k s c script.bytes cert.bytes a.bytes b.bytes) is

pub report_stopped : (k : Known) (kind : ScriptReport) (path : List ℕ) (script : Reading) (out : Writing) (why : RunFault)
    → EngineAnswers (record { script = Some script; certificate = None; out = out })
    (λ outcome report. OfBytes script.bytes (λ text. ReportsScriptTo kind text outcome report)) (Err why)
    → IsOpen k path script → Leaves k (report_asked kind path) out (Err (Run why))
report_stopped k kind path script out why is a =
    stopped k (report_asked kind path) _ (Some script) None out why (report_readings k kind path script (a.opened, a.bytes, a.failing))
    (of_report k kind path script.bytes a.bytes) is

pub report_answered : (k : Known) (kind : ScriptReport) (path : List ℕ) (script : Reading) (out : Writing) (outcome : Outcome)
    → EngineAnswers (record { script = Some script; certificate = None; out = out })
    (λ outcome report. OfBytes script.bytes (λ text. ReportsScriptTo kind text outcome report)) (Ok outcome)
    → IsOpen k path script → Leaves k (report_asked kind path) out (Ok outcome)
report_answered k kind path script out outcome is a =
    answered k (report_asked kind path) _ (Some script) None out outcome (report_readings k kind path script (a.opened, a.bytes, a.failing))
    (of_report k kind path script.bytes a.bytes) is

pub upgrade_stopped : (k : Known) (path : List ℕ) (cert : Reading) (out : Writing) (why : RunFault)
    → EngineAnswers (record { script = None; certificate = Some cert; out = out })
    (λ outcome report. OfBytes cert.bytes (λ bytes. UpgradesTo bytes outcome report)) (Err why)
    → IsOpen k path cert → Leaves k (Upgrade path) out (Err (Run why))
upgrade_stopped k path cert out why is a =
    stopped k (Upgrade path) _ None (Some cert) out why (tt {0}, (a.opened, a.bytes, a.failing)) (of_upgrade k path cert.bytes a.bytes) is

pub upgrade_answered : (k : Known) (path : List ℕ) (cert : Reading) (out : Writing) (outcome : Outcome)
    → EngineAnswers (record { script = None; certificate = Some cert; out = out })
    (λ outcome report. OfBytes cert.bytes (λ bytes. UpgradesTo bytes outcome report)) (Ok outcome)
    → IsOpen k path cert → Leaves k (Upgrade path) out (Ok outcome)
upgrade_answered k path cert out outcome is a =
    answered k (Upgrade path) _ None (Some cert) out outcome (tt {0}, (a.opened, a.bytes, a.failing)) (of_upgrade k path cert.bytes a.bytes) is

-- ---- Statuses

-- no refusal has the status of an answer
pub refusal_status : (refusal : Refusal) → 1 < status_of refusal
refusal_status (Run (fault.Script why)) = lit< tt
refusal_status (Run (fault.Certificate why)) = lit< tt
refusal_status Usage = lit< tt
refusal_status (Run (fault.Read input)) = lit< tt
refusal_status (Run fault.Write) = lit< tt
refusal_status (Run fault.OutOfMemory) = lit< tt

-- a refusal leaves nothing, or a prefix of a report
pub broken_off : (k : Known) (asked : Asked) (out : Writing) (refusal : Refusal) → Leaves k asked out (Err refusal)
    → Keeps out.before out.after ⊎ BreaksOff k asked out.before out.after
broken_off k asked out (Run (fault.Script why)) left = inl left.1
broken_off k asked out (Run (fault.Certificate why)) left = inl left.1
broken_off k asked out Usage left = inl left.1
broken_off k asked out (Run (fault.Read input)) left = inl left.1
broken_off k asked out (Run fault.Write) left = inr left.1
broken_off k asked out (Run fault.OutOfMemory) left = inl left.1

of_some : (known : Option (List ℕ)) (Holds : List ℕ → Type 0) → ((text : List ℕ) → Holds text → ⊥) → OfBytes known Holds → ⊥
of_some None Holds none h = none h.0 h.1
of_some (Some text) Holds none h = none text h

-- only a check and a search may answer no
pub never_no : (k : Known) (asked : Asked) (before after : Option (List ℕ)) → Reports k asked before after No → MayBeNo asked
never_no k (Check script certificate) before after reports = tt {0}
never_no k (the_files path) before after reports = of_some (k.bytes_at path) _ (λ text h. cc (h.0)) reports.1
never_no k (the_graph path) before after reports = of_some (k.bytes_at path) _ (λ text h. cc (h.0)) reports.1
never_no k (the_rank path) before after reports = tt {0}
never_no k (Upgrade path) before after reports = of_some (k.bytes_at path) _ (λ text h. cc (h.0)) reports.1
never_no k Nothing before after reports = reports.1

-- where nothing is asked for, there is no report
pub no_report : (k : Known) (asked : Asked) (before after : Option (List ℕ)) (outcome : Outcome) → asked ≡ Nothing → Reports k asked before after outcome → ⊥
no_report k asked before after outcome is reports = subst (λ a. IsReportFor k a outcome reports.0) is reports.1

-- a refusal is right
pub is_cause : (k : Known) (asked : Asked) (out : Writing) (refusal : Refusal) → Leaves k asked out (Err refusal) → IsCause k asked out.failed refusal
is_cause k asked out (Run (fault.Script why)) left = left.0
is_cause k asked out (Run (fault.Certificate why)) left = left.0
is_cause k asked out Usage left = left.0
is_cause k asked out (Run (fault.Read read)) left = left.0
is_cause k asked out (Run fault.Write) left = left.0
is_cause k asked out (Run fault.OutOfMemory) left = left.0

-- where a text is refused, all files were open
pub opened_by : (k : Known) (asked : Asked) (out : Writing) (refusal : Refusal) → Leaves k asked out (Err refusal) → status_of refusal < 3 → AreOpened k asked
opened_by k asked out (Run (fault.Script why)) left below = left.0.0
opened_by k asked out (Run (fault.Certificate why)) left below = left.0.0
opened_by k asked out Usage left below = absurd (omega (arith, below))
opened_by k asked out (Run (fault.Read read)) left below = absurd (omega (arith, below))
opened_by k asked out (Run fault.Write) left below = absurd (omega (arith, below))
opened_by k asked out (Run fault.OutOfMemory) left below = absurd (omega (arith, below))

-- status 3 is that of the words alone
pub is_usage : (refusal : Refusal) → status_of refusal ≡ 3 → refusal ≡ Usage
is_usage (Run (fault.Script why)) is = absurd (omega (arith, is))
is_usage (Run (fault.Certificate why)) is = absurd (omega (arith, is))
is_usage Usage is = refl
is_usage (Run (fault.Read input)) is = absurd (omega (arith, is))
is_usage (Run fault.Write) is = absurd (omega (arith, is))
is_usage (Run fault.OutOfMemory) is = absurd (omega (arith, is))

-- and where nothing is asked for
refused_words : (k : Known) (out : Writing) (refusal : Refusal) → Leaves k Nothing out (Err refusal) → (status_of refusal ≡ 3) ⊎ (status_of refusal ≡ 4)
refused_words k out (Run (fault.Script why)) left = absurd left.0.1
refused_words k out (Run (fault.Certificate why)) left = absurd left.0.2
refused_words k out Usage left = inl refl
refused_words k out (Run (fault.Read input)) left = inr refl
refused_words k out (Run fault.Write) left = inr refl
refused_words k out (Run fault.OutOfMemory) left = inr refl

pub of_words : (k : Known) (asked : Asked) (out : Writing) (refusal : Refusal) → asked ≡ Nothing → Leaves k asked out (Err refusal)
    → (status_of refusal ≡ 3) ⊎ (status_of refusal ≡ 4)
of_words k asked out refusal is left = refused_words k out refusal (subst (λ a. Leaves k a out (Err refusal)) is left)
