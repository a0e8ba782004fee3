-- The files that a script names, this project's own.
use Rattle.std.specs.Prelude.{◌==◌, ℕ, Bool, not, List, length, map}
use Rattle.sedck_report.specs.declared.finding.NamedFile.{NamedFile}

-- the names of files, in their order
abbrev pub names_of : List NamedFile → List (List ℕ)
names_of files = map (λ file. file.name.now) files

-- a list has something
abbrev pub is_there : {A : Type 0} → List A → Bool
is_there things = not (length things == 0)
