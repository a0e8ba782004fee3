-- What may be known of the files that are opened, this project's own.
use Rattle.std.specs.Prelude.{ℕ, Bool, List, Option, None}

-- By path: the bytes that the file has, where they are known, and whether an attempt to open it may end so (true: it is open).
-- And whether a read may fail.
pub record Known : Type 1 where
  pub bytes_at : List ℕ → Option (List ℕ)
  pub may_open : List ℕ → Bool → Type 0
  pub may_fail : Type 0

-- nothing is known
abbrev pub unknown : Known
unknown = record { bytes_at = λ path. None; may_open = λ path opened. Unit {0}; may_fail = Unit {0} }
