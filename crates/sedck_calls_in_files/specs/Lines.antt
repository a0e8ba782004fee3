-- What is written to standard error, this project's own.
use Rattle.std.specs.Prelude.{ℕ, List, ◌++◌, codes}
use Rattle.sedck_cert.specs.Text.{line}

-- a line of the program
abbrev pub error_line : List ℕ → List ℕ
error_line words = line (codes "sedck-explain: " ++ words)
