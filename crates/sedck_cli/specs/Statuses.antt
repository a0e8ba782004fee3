-- The exit statuses of the program, and what is on its output at each, this project's own.
use Rattle.std.specs.Prelude.{◌==◌, ℕ, Bool, false, List, [], ◌∷◌, Option, Some, None, String, string_bytes, codes, if◌then◌else◌}
use Rattle.std.specs.List.{list_any}
use Rattle.std.specs.Str.{bytes_eq}
use Rattle.std.specs.declared.alloc.Global.{Global}
use Rattle.std.specs.Io.KnownBytes.{Appends}
use Rattle.sedck_cert.specs.Streams.{AppendsPrefix}
use Rattle.sedck_engines.specs.Opened.{Known}
use Rattle.sedck_engines.specs.Engines.{OfBytes, ChecksTo, ListsFilesTo, ListsGraphTo, RanksTo, UpgradesTo}
use Rattle.sedck_engines.specs.declared.answer.Outcome.{Outcome}
use Rattle.sedck_engines.specs.declared.answer.RunFault.TheVariants as fault
use Rattle.sedck_cli.specs.declared.command_line.Refusal.{Refusal}
use Rattle.sedck_cli.specs.declared.command_line.Refusal.TheVariants.{Usage, Run}

abbrev pub status_of : Refusal → ℕ
status_of (Run (fault.Script why)) = 2
status_of (Run (fault.Certificate why)) = 2
status_of Usage = 3
status_of (Run (fault.Read input)) = 4
status_of (Run fault.Write) = 4
status_of (Run fault.OutOfMemory) = 4

-- ---- What the words ask for

-- a subcommand with the paths of its files: a script and a certificate, a script, or a certificate
pub data Asked : Type 0 where
  Check : List ℕ → List ℕ → Asked
  Files : List ℕ → Asked
  Graph : List ℕ → Asked
  Rank : List ℕ → Asked
  Upgrade : List ℕ → Asked
  Nothing : Asked

-- by the name of a subcommand that takes one file
abbrev pub asked_of_one : List ℕ → List ℕ → Asked
asked_of_one name path =
    if bytes_eq name (codes "files") then Files path else if bytes_eq name (codes "graph") then Graph path
    else if bytes_eq name (codes "rank") then Rank path else if bytes_eq name (codes "upgrade") then Upgrade path else Nothing

-- by the name of a subcommand that takes a script and a certificate
abbrev pub asked_of_both : List ℕ → List ℕ → List ℕ → Asked
asked_of_both name script certificate = if bytes_eq name (codes "check") then Check script certificate else Nothing

-- by the first word and the number of words
abbrev pub asked : List (String Global) → Asked
asked (name ∷ file ∷ []) = asked_of_one (string_bytes name) (string_bytes file)
asked (name ∷ script ∷ certificate ∷ []) = asked_of_both (string_bytes name) (string_bytes script) (string_bytes certificate)
asked _ = Nothing

-- the path of the script that is read, if one is
abbrev pub script_of : Asked → Option (List ℕ)
script_of (Check script certificate) = Some script
script_of (Files script) = Some script
script_of (Graph script) = Some script
script_of (Rank script) = Some script
script_of (Upgrade certificate) = None
script_of Nothing = None

-- and of the certificate
abbrev pub certificate_of : Asked → Option (List ℕ)
certificate_of (Check script certificate) = Some certificate
certificate_of (Files script) = None
certificate_of (Graph script) = None
certificate_of (Rank script) = None
certificate_of (Upgrade certificate) = Some certificate
certificate_of Nothing = None

-- only a check and a search may answer no
abbrev pub MayBeNo : Asked → Type 0
MayBeNo (Check script certificate) = Unit {0}
MayBeNo (Rank script) = Unit {0}
MayBeNo _ = ⊥

-- ---- What is on the output

-- A report of what was asked for, with this outcome: on the bytes that the files at these paths have, or, where they aren't known,
-- on some bytes.
abbrev pub IsReportFor : Known → Asked → Outcome → List ℕ → Type 0
IsReportFor k (Check script certificate) outcome report =
    OfBytes (k.bytes_at script) (λ text. OfBytes (k.bytes_at certificate) (λ bytes. ChecksTo text bytes outcome report))
IsReportFor k (Files script) outcome report = OfBytes (k.bytes_at script) (λ text. ListsFilesTo text outcome report)
IsReportFor k (Graph script) outcome report = OfBytes (k.bytes_at script) (λ text. ListsGraphTo text outcome report)
IsReportFor k (Rank script) outcome report = OfBytes (k.bytes_at script) (λ text. RanksTo text outcome report)
IsReportFor k (Upgrade certificate) outcome report = OfBytes (k.bytes_at certificate) (λ bytes. UpgradesTo bytes outcome report)
IsReportFor k Nothing outcome report = ⊥

-- such a report was written
abbrev pub Reports : Known → Asked → Option (List ℕ) → Option (List ℕ) → Outcome → Type 0
Reports k asked before after outcome = (report : List ℕ) × IsReportFor k asked outcome report × Appends before after report

-- only a prefix of such a report was
abbrev pub BreaksOff : Known → Asked → Option (List ℕ) → Option (List ℕ) → Type 0
BreaksOff k asked before after = (outcome : Outcome) × (report : List ℕ) × IsReportFor k asked outcome report × AppendsPrefix before after report

-- the words are of no known form, or memory ran out
abbrev pub IsOfWords : Refusal → Type 0
IsOfWords Usage = Unit {0}
IsOfWords (Run fault.OutOfMemory) = Unit {0}
IsOfWords (Run _) = ⊥

abbrev pub begins_with_hyphen : List ℕ → Bool
begins_with_hyphen [] = false
begins_with_hyphen (b ∷ rest) = b == 45

-- one of the words begins with a hyphen
abbrev pub has_option : List (String Global) → Bool
has_option words = list_any (λ word. begins_with_hyphen (string_bytes word)) words
