-- What a refusal says, this project's own.
use Rattle.std.specs.Prelude.{◌≡◌, ℕ, Bool, List, ◌++◌, Option, codes}
use Rattle.std.specs.Io.KnownBytes.{Appends}
use Rattle.sedck_commands.specs.FaultWords.{fault_words}
use Rattle.sedck_cert.specs.FaultText.{fault_text}
use Rattle.sedck_cert.specs.Text.{line}
use Rattle.sedck_engines.specs.declared.answer.RunFault.TheVariants as fault
use Rattle.sedck_cli.specs.declared.command_line.Refusal.{Refusal}
use Rattle.sedck_cli.specs.declared.command_line.Refusal.TheVariants.{Usage, Run}
use Rattle.sedck_engines.specs.Reports.{input_text}
use Rattle.sedck_engines.specs.Opened.{Known}
use Rattle.sedck_cli.specs.Statuses.{status_of, Asked}
use Rattle.sedck_cli.specs.Causes.{IsCause}

abbrev pub refusal_words : Refusal → List ℕ
refusal_words Usage = codes "usage: sedck rank SCRIPT, check SCRIPT CERT, files SCRIPT, graph SCRIPT, upgrade CERT"
refusal_words (Run (fault.Script why)) = codes "script " ++ fault_words why
refusal_words (Run (fault.Certificate why)) = codes "certificate " ++ fault_text why
refusal_words (Run (fault.Read input)) = codes "cannot read " ++ input_text input
refusal_words (Run fault.Write) = codes "cannot write"
refusal_words (Run fault.OutOfMemory) = codes "out of memory"

-- the line on standard error
abbrev pub refusal_line : Refusal → List ℕ
refusal_line refusal = line (codes "sedck: " ++ refusal_words refusal)

-- the line of a refusal with this status was written, and the refusal is right: it speaks of what was asked for, and of the bytes of its
-- files
abbrev pub SaysRefusalFor : Known → Asked → Bool → ℕ → Option (List ℕ) → Option (List ℕ) → Type 0
SaysRefusalFor k asked failed status before after =
    (refusal : Refusal) × (status_of refusal ≡ status) × IsCause k asked failed refusal × Appends before after (refusal_line refusal)
