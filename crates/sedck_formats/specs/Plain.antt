-- What is written of a script in the format `sed`, this project's own.
use Rattle.std.specs.Prelude.{◌≡◌, ◌≢◌, ◌⊎◌, ℕ, List, Option, IfSome}
use Rattle.std.specs.Io.KnownBytes.{Keeps, Appends}
use Rattle.sedck_script.specs.Program.{Program}
use Rattle.sedck_script.specs.Spelling.{Spells}
use Rattle.sedck_plain.specs.WrittenLists.{HaveSameLists}
use Rattle.sedck_answer.specs.declared.explanation.Explanation.{Explanation}
use Rattle.sedck_answer.specs.declared.status.Status.{Status}
use Rattle.sedck_answer.specs.declared.status.Status.TheVariants.{Accepted, Refused}

-- the status that is judged, or that of what is refused for an accepted script without a plain spelling
abbrev pub IsPlainStatus : Status → Status → Type 0
IsPlainStatus judged status = (status ≡ judged) ⊎ ((judged ≡ Accepted) × (status ≡ Refused))

-- where it is accepted the text spells the very program that is explained, with the bracket lists of the script
pub record IsPlainReport (e : Explanation) (text : List ℕ) (status : Status) : Type 0 where
  pub is_status : IsPlainStatus e.status status
  pub spelled : status ≡ Accepted → IfSome e.script (Spells text)
  pub lists : status ≡ Accepted → IfSome e.script (λ p. HaveSameLists e.source.now text)

-- ---- What is written

-- what the output has taken before and after, where that is known
pub record Output : Type 0 where
  pub before : Option (List ℕ)
  pub after : Option (List ℕ)

-- a text is written that spells the program, with the bracket lists of the script
abbrev pub Writes : Output → List ℕ → Program → Type 0
Writes out script p = (text : List ℕ) × Spells text p × HaveSameLists script text × Appends out.before out.after text

-- where it is accepted a text is written that spells the program that is explained, if there is one; else nothing is written
pub record IsPlainOutput (e : Explanation) (out : Output) (status : Status) : Type 0 where
  pub spelled : status ≡ Accepted → IfSome e.script (Writes out e.source.now)
  pub kept : status ≢ Accepted → Keeps out.before out.after
