-- Why the program refuses, by what is known of its files, this project's own.
use Rattle.std.specs.Prelude.{ℕ, Bool, true, false, IsTrue, List, Option, Some, None, IfSome, ◌⊎◌}
use Rattle.sedck_commands.specs.Program.{Program}
use Rattle.sedck_script.specs.Spelling.{Spells}
use Rattle.sedck_engines.specs.Opened.{Known}
use Rattle.sedck_engines.specs.Engines.{OfBytes, IsRefusedScript, IsRefusedCertificate}
use Rattle.sedck_cli.specs.Statuses.{Asked, script_of, certificate_of}
use Rattle.sedck_engines.specs.declared.answer.Input.TheVariants as input
use Rattle.sedck_engines.specs.declared.answer.RunFault.TheVariants as fault
use Rattle.sedck_cli.specs.declared.command_line.Refusal.{Refusal}
use Rattle.sedck_cli.specs.declared.command_line.Refusal.TheVariants.{Usage, Run}

-- there is a path, and this holds of it
abbrev pub OfPath : Option (List ℕ) → (List ℕ → Type 0) → Type 0
OfPath None Holds = ⊥
OfPath (Some path) Holds = Holds path

-- the file is open
abbrev pub IsOpened : Known → List ℕ → Type 0
IsOpened k path = k.may_open path true

-- all files that are asked for are open
abbrev pub AreOpened : Known → Asked → Type 0
AreOpened k asked = IfSome (script_of asked) (IsOpened k) × IfSome (certificate_of asked) (IsOpened k)

-- The file couldn't be opened, or a read failed once all files were open.
abbrev pub IsUnread : Known → Asked → List ℕ → Type 0
IsUnread k asked path = k.may_open path false ⊎ (AreOpened k asked × k.may_fail)

-- The refusal is right, where failed says whether a write has failed: it speaks of an input that is asked for and of its bytes. All
-- files are opened before one is read, the script first, and a certificate is judged only for a script. Memory may run out at
-- any time; of the words themselves nothing is said here.
abbrev pub IsCause : Known → Asked → Bool → Refusal → Type 0
IsCause k asked failed Usage = Unit {0}
IsCause k asked failed (Run (fault.Script why)) =
    AreOpened k asked × OfPath (script_of asked) (λ path. OfBytes (k.bytes_at path) (λ text. IsRefusedScript text why))
IsCause k asked failed (Run (fault.Certificate why)) =
    AreOpened k asked × IfSome (script_of asked) (λ path. OfBytes (k.bytes_at path) (λ text. (p : Program) × Spells text p))
    × OfPath (certificate_of asked) (λ path. OfBytes (k.bytes_at path) (λ bytes. IsRefusedCertificate bytes why))
IsCause k asked failed (Run (fault.Read input.Script)) = OfPath (script_of asked) (IsUnread k asked)
IsCause k asked failed (Run (fault.Read input.Certificate)) =
    IfSome (script_of asked) (IsOpened k) × OfPath (certificate_of asked) (IsUnread k asked)
IsCause k asked failed (Run fault.Write) = AreOpened k asked × IsTrue failed
IsCause k asked failed (Run fault.OutOfMemory) = Unit {0}
