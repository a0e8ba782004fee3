-- What is proved of certificates and runs alone.
use Rattle.std.specs.Prelude.{◌≡◌, ◌↔◌, ℕ, ◌+◌, ◌*◌, ◌≤◌, List, length}
use Rattle.sedck_script.specs.Invariant.{AreWellFormed}
use Rattle.sedck_script.specs.Program.{Program}
use Rattle.sedck_script.specs.Names.{reads, writes}
use Rattle.sedck_flow.specs.Run.{Files, State, Event, Run, NamesForReading, NamesForWriting}
use Rattle.sedck_flow.specs.WideRun.{WideRun, all_lines}
use Rattle.sedck_flow.specs.Flow.{HasKind}
use Rattle.sedck_flow.specs.LiteralKinds.{HasLiteralKind}
use Rattle.sedck_cert.specs.Certificate.{Certificate, IsCertificate}
use Rattle.sedck_cert.specs.Text.{text_in}
use Rattle.sedck_cert.specs.declared.versions.Version.{Version}
use Rattle.sedck_cert.specs.declared.versions.Version.TheVariants.{One, Two}
use Rattle.sedck_cert.specs.Ranked.{ranks_at, IsRanked, Accepts, IsSteady, IsFalling, ListsNames}
use Rattle.sedck_cert.specs.VersionOne.{ranks_at_one, AcceptsOne, upgraded}
use Rattle.sedck_flow.specs.VersionOne.{plain_node}
use Rattle.sedck_flow.specs.declared.graph.Node.{Node}
use Rattle.sedck_cert.specs.StepLimit.{greatest_first, greatest_second, step_limit}
use Rattle.sedck_flow.specs.Spaces.{bytes_of}

-- the sorted names of a script are the one list of just the names that its commands name
abbrev pub NamesAreListed : Type 0
NamesAreListed = (p : Program) (names : List (List ℕ))
    → (ListsNames names (NamesForReading p) ↔ (names ≡ reads p)) × (ListsNames names (NamesForWriting p) ↔ (names ≡ writes p))

-- no run of a ranked script has more steps than its limit
abbrev pub RanksBoundRuns : Type 0
RanksBoundRuns = (p : Program) → AreWellFormed p → (c : Certificate) → IsRanked p c
    → (lines : List (List ℕ)) (steps : List (Event × State)) → Run p lines steps → length steps ≤ step_limit p c lines

-- the steps that a steady script takes at most, by the bytes and the number of the lines
abbrev pub steady_limit : Certificate → List (List ℕ) → ℕ
steady_limit c lines = (greatest_second c.ranks + 1) * (bytes_of lines + (greatest_first c.ranks + 2) * length lines + 1)

-- no run of a steady script has more steps
abbrev pub SteadyRunsAreCounted : Type 0
SteadyRunsAreCounted = (p : Program) → AreWellFormed p → (c : Certificate) → IsSteady p c
    → (lines : List (List ℕ)) (steps : List (Event × State)) → Run p lines steps → length steps ≤ steady_limit c lines

-- the same of wide runs, by the lines of all files
abbrev pub RanksBoundWideRuns : Type 0
RanksBoundWideRuns = (p : Program) → AreWellFormed p → (c : Certificate) → IsRanked p c
    → (d : ℕ) (files : Files) (steps : List (Event × State)) → WideRun p d files steps → length steps ≤ step_limit p c (all_lines files)

abbrev pub SteadyWideRunsAreCounted : Type 0
SteadyWideRunsAreCounted = (p : Program) → AreWellFormed p → (c : Certificate) → IsSteady p c
    → (d : ℕ) (files : Files) (steps : List (Event × State)) → WideRun p d files steps → length steps ≤ steady_limit c (all_lines files)

-- the steps that a falling script takes at most, by the number of the lines alone
abbrev pub falling_limit : Certificate → List (List ℕ) → ℕ
falling_limit c lines = (greatest_first c.ranks + 1) * length lines + 1

-- no run of a falling script has more steps
abbrev pub FallingRunsAreCounted : Type 0
FallingRunsAreCounted = (p : Program) → AreWellFormed p → (c : Certificate) → IsFalling p c
    → (lines : List (List ℕ)) (steps : List (Event × State)) → Run p lines steps → length steps ≤ falling_limit c lines

-- nor has a wide run, by the lines of all files
abbrev pub FallingWideRunsAreCounted : Type 0
FallingWideRunsAreCounted = (p : Program) → AreWellFormed p → (c : Certificate) → IsFalling p c
    → (d : ℕ) (files : Files) (steps : List (Event × State)) → WideRun p d files steps → length steps ≤ falling_limit c (all_lines files)

-- upgrading gives both nodes of a place and flag the ranks of that place and flag, or none where it has none
abbrev pub UpgradesKeepRanks : Type 0
UpgradesKeepRanks = (c : Certificate) (n : Node) → ranks_at (upgraded c) n ≡ ranks_at_one c (plain_node n)

-- a certificate of version 1 that was accepted is accepted once it is upgraded, whether the kinds of substitutions were those by literal parts alone
-- or those with references
abbrev pub UpgradesAreAccepted : Type 0
UpgradesAreAccepted = (p : Program) (c : Certificate)
    → (AcceptsOne (HasLiteralKind p) p c → Accepts p (upgraded c)) × (AcceptsOne (HasKind p) p c → Accepts p (upgraded c))

-- the bytes of the longest text of each version
abbrev pub text_limit : Version → ℕ
text_limit One = 1202051
text_limit Two = 1388247

-- no certificate has a longer text
abbrev pub TextsAreLimited : Type 0
TextsAreLimited = (v : Version) (c : Certificate) → IsCertificate v c → length (text_in v c) ≤ text_limit v
