-- The steps of an engine.
use Rattle.std.specs.Prelude.{◌≡◌, IsTrue, List, ℕ, Result, Ok, Err}
use Rattle.std.specs.Io.KnownBytes.{Appends}
use Rattle.sedck_script.specs.Program.{Program}
use Rattle.sedck_cert.specs.Streams.{AppendsPrefix}
use Rattle.sedck_search.specs.declared.answer.Found.{Found}
use Rattle.sedck_engines.specs.declared.answer.Outcome.{Outcome}
use Rattle.sedck_engines.specs.declared.answer.Outcome.TheVariants.{Yes}
use Rattle.sedck_engines.specs.declared.answer.RunFault.{RunFault}
use Rattle.sedck_engines.specs.declared.answer.RunFault.TheVariants as fault
use Rattle.sedck_engines.specs.declared.engines.ScriptReport.{ScriptReport}
use Rattle.sedck_engines.specs.declared.engines.ScriptReport.TheVariants.{Files, Graph, Rank}
use Rattle.sedck_engines.specs.Reports.{IsFilesReport, IsGraphReport, IsRankReport}
use Rattle.sedck_engines.specs.Engines.{found_outcome, Writing}

-- the report on a script, and its outcome
abbrev pub IsScriptReport : ScriptReport → Program → Outcome → List ℕ → Type 0
IsScriptReport Files p outcome report = (outcome ≡ Yes) × IsFilesReport p report
IsScriptReport Graph p outcome report = (outcome ≡ Yes) × IsGraphReport p report
IsScriptReport Rank p outcome report = (found : Found) × (outcome ≡ found_outcome found) × IsRankReport p found report

-- the whole report is written, or a prefix of it and a write has failed
abbrev pub WritesReport : Writing → Outcome → List ℕ → Result Outcome RunFault → Type 0
WritesReport out outcome report (Ok written) = (written ≡ outcome) × Appends out.before out.after report
WritesReport out outcome report (Err why) = (why ≡ fault.Write) × IsTrue out.failed × AppendsPrefix out.before out.after report
