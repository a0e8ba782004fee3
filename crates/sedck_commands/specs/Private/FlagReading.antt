-- What the readers of flags say of what they read.
use Rattle.std.specs.Prelude.{◌≡◌, ℕ, List, ◌∷◌, Option}
use Rattle.sedck_commands.specs.Program.{Pattern, Part, Substitution}
use Rattle.sedck_commands.specs.Parts.{Number}
use Rattle.sedck_commands.specs.Private.Alike.{Name}
use Rattle.sedck_commands.specs.Private.Reading.{EndsFlags}
use Rattle.sedck_commands.specs.declared.flags.Seen.{Seen}
use Rattle.sedck_commands.specs.declared.flags.Flag.{Flag}
use Rattle.sedck_commands.specs.declared.flags.Flag.TheVariants as flag

-- the first flag, or the end of the command, and what follows it
abbrev pub IsFlag : List ℕ → Flag → List ℕ → Type 0
IsFlag text flag.Global rest = text ≡ 103 ∷ rest
IsFlag text flag.Print rest = text ≡ 112 ∷ rest
IsFlag text (flag.Nth n) rest = Number text n rest
IsFlag text (flag.File name) rest = (behind : List ℕ) × (text ≡ 119 ∷ behind) × Name behind name.now rest
IsFlag text flag.End rest = EndsFlags text rest

-- the substitution with these flags
abbrev pub with_flags : Pattern → List Part → Seen → Option (List ℕ) → Substitution
with_flags pattern parts seen file = record { pattern = pattern; parts = parts; global = seen.global; print = seen.print; nth = seen.nth; file = file }
