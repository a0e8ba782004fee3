-- What the reader of comments says of what it reads.
use Rattle.std.specs.Prelude.{ℕ, not, List}
use Rattle.sedck_commands.specs.Cuts.{is_newline, Longest}
use Rattle.sedck_commands.specs.ReadAlike.{HasNoInnerReturn}

-- a comment after its `#`, and what follows the end of its line
abbrev pub CommentText : List ℕ → List ℕ → List ℕ → Type 0
CommentText text line rest = Longest (λ b. not (is_newline b)) text line rest × HasNoInnerReturn line
