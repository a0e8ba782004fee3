-- What is read of an input, this project's own: its bytes up to a limit, above which it is refused whatever follows.
use Rattle.std.specs.Prelude.{◌≡◌, ◌≤◌, ℕ, List, length, take, Option, IfSome}

-- the text is what was read of an input's bytes, where they are known
pub record IsRead (limit : ℕ) (known : Option (List ℕ)) (text : List ℕ) : Type 0 where
  pub prefix : IfSome known (λ bytes. text ≡ take limit bytes)
  pub within : length text ≤ limit
