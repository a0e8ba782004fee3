-- What a request asks for, and what it leaves on the output.
use Rattle.std.specs.Prelude.{◌||◌, if◌then◌else◌, codes, ◌≡◌, ℕ, IsTrue, List, Option, Some, None, IfSome, Result, Ok, Err}
use Rattle.std.specs.Str.{bytes_eq}
use Rattle.std.specs.Io.KnownBytes.{Keeps}
use Rattle.sedck_engines.specs.Opened.{Known}
use Rattle.sedck_engines.specs.Engines.{Reading, Writing}
use Rattle.sedck_cli.specs.Statuses.{Asked, Check, Files, Graph, Rank, Upgrade, Nothing, Reports, BreaksOff}
use Rattle.sedck_cli.specs.Causes.{IsOpened, AreOpened, IsCause}
use Rattle.sedck_engines.specs.declared.answer.Outcome.{Outcome}
use Rattle.sedck_engines.specs.declared.answer.RunFault.TheVariants as fault
use Rattle.sedck_cli.specs.declared.command_line.Refusal.{Refusal}
use Rattle.sedck_cli.specs.declared.command_line.Refusal.TheVariants.{Run}
use Rattle.sedck_engines.specs.declared.engines.ScriptReport.{ScriptReport}
use Rattle.sedck_engines.specs.declared.engines.ScriptReport.TheVariants as kind
use Rattle.sedck_cli.specs.declared.command_line.Request.{Request}
use Rattle.sedck_cli.specs.declared.command_line.Request.TheVariants as request

abbrev pub report_asked : ScriptReport → List ℕ → Asked
report_asked kind.Files path = Files path
report_asked kind.Graph path = Graph path
report_asked kind.Rank path = Rank path

abbrev pub request_asks : Request → Asked
request_asks (request.Check script certificate) = Check script.now certificate.now
request_asks (request.Report kind script) = report_asked kind script.now
request_asks (request.Upgrade certificate) = Upgrade certificate.now

abbrev pub asked_by : Option Request → Asked
asked_by None = Nothing
asked_by (Some r) = request_asks r

-- the reading of an open file at a path, if there is one
abbrev pub IsReadingAt : Known → Option (List ℕ) → Option Reading → Type 0
IsReadingAt k None None = Unit {0}
IsReadingAt k (Some path) (Some reading) =
    IsOpened k path × IfSome (k.bytes_at path) (λ bytes. reading.bytes ≡ Some bytes) × (IsTrue reading.failed → k.may_fail)
IsReadingAt k _ _ = ⊥

-- what is on the output after an answer
abbrev pub Leaves : Known → Asked → Writing → Result Outcome Refusal → Type 0
Leaves k asked w (Ok outcome) = AreOpened k asked × Reports k asked w.before w.after outcome
Leaves k asked w (Err (Run fault.Write)) = IsCause k asked w.failed (Run fault.Write) × BreaksOff k asked w.before w.after
Leaves k asked w (Err refusal) = IsCause k asked w.failed refusal × Keeps w.before w.after

-- two files, at the paths `a` and `b`, which are read without fail
abbrev pub two_files : List ℕ → List ℕ → Known
two_files a b = record {
  bytes_at = λ path. if bytes_eq path (codes "a") then Some a else if bytes_eq path (codes "b") then Some b else None;
  may_open = λ path opened. opened ≡ (bytes_eq path (codes "a") || bytes_eq path (codes "b"));
  may_fail = ⊥;
}
