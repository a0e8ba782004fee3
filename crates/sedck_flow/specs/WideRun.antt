-- The runs of a script in any locale: XBD 7.3.1 leaves it to a locale what a character is. A wide run differs from a run in the POSIX locale in what
-- is here, and in no other point.
use Rattle.std.specs.Prelude.{◌≡◌, ◌⊎◌, ℕ, List, [], ◌∷◌, ◌++◌}
use Rattle.sedck_bre.specs.WideMatch.{WideMatch}
use Rattle.sedck_commands.specs.Program.{Program}
use Rattle.sedck_flow.specs.Run.{Locale, Files, State, Start, Event, IsPartner, StepsIn}

-- a byte that `y` lists may also stay, being a part of a character that isn't listed
abbrev pub WideTransliterates : List ℕ → List ℕ → List ℕ → List ℕ → Type 0
WideTransliterates from to [] [] = Unit {0}
WideTransliterates from to (b ∷ bs) (c ∷ cs) = (IsPartner from to b c ⊎ (c ≡ b)) × WideTransliterates from to bs cs
WideTransliterates from to _ _ = ⊥

-- all that may be so in some locale; a context address may select any line
abbrev pub any_locale : Locale
any_locale = record { Matches = WideMatch; Transliterates = WideTransliterates; Selects = λ p pattern text. Unit {0} }

-- a run on these files, finished or not, in any locale; d is the byte that ends lines
abbrev pub WideRun : Program → ℕ → Files → List (Event × State) → Type 0
WideRun p d files steps = StepsIn any_locale d p (Start files) steps

-- the lines of the files, one after another
abbrev pub all_lines : Files → List (List ℕ)
all_lines [] = []
all_lines (file ∷ files) = file ++ all_lines files
