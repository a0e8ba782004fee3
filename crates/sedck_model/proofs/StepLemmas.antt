-- Commands at their places.
use Rattle.sedck_model.proofs.Common.{◌≡◌, ◌⊎◌, ℕ, ◌<◌, ◌≤◌, Bool, IsTrue, List, map, length, get_or, refl, sym, ap, ◌∙◌, inl, inr, arith, Some, None, Result, Ok, Err, slice_get, length-map, get_or-map, slice_get_read, command_of}
use Rattle.std.proofs.Common.{◌↔◌}
use Rattle.std.specs.Result.{IfOk}
use Rattle.std.proofs.lemmas.Option.{slice_get_past}
use Rattle.sedck_commands.specs.Program.{Command as Plain}
use Rattle.sedck_script.specs.declared.script.Command.{Command}

-- the command at a place
pub command_at : (cs : List Plain) (commands : List Command) (at : ℕ) (c : Command) → map command_of commands ≡ cs → at < length commands
    → c ≡ get_or commands at c → slice_get cs at ≡ Some (command_of c)
command_at cs commands at c all below is =
    let long : length (map command_of commands) ≡ length commands = length-map commands command_of in
    rw (← all) (slice_get_read (map command_of commands) (length (map command_of commands)) at (command_of c) refl (omega (arith, below, long))
    (ap command_of is ∙ sym (get_or-map command_of commands at c (command_of c) below)))

-- behind the last one there is none
pub command_behind : (cs : List Plain) (commands : List Command) (at : ℕ) → map command_of commands ≡ cs → length commands ≤ at
    → slice_get cs at ≡ None
command_behind cs commands at all past =
    let long : length (map command_of commands) ≡ length commands = length-map commands command_of in
    rw (← all) (slice_get_past (map command_of commands) at (omega (arith, past, long)))

-- ---- Answers that decide more

-- what is known to hold may be asked for too
pub also : {E : Type 0} (r : Result Bool E) (P Q R : Type 0) → Q → R → IfOk r (λ b. IsTrue b ↔ P) → IfOk r (λ b. IsTrue b ↔ (P × Q × R))
also (Ok b) P Q R q s h = (λ e. (h.0 e, q, s), λ all. h.1 all.0)
also (Err e) P Q R q s h = tt

-- and so may what is known not to hold, as another way
pub or_else : {E : Type 0} (r : Result Bool E) (P Q : Type 0) → (P → ⊥) → IfOk r (λ b. IsTrue b ↔ Q) → IfOk r (λ b. IsTrue b ↔ (P ⊎ Q))
or_else (Ok b) P Q never h = (λ e. inr (h.0 e), elim [ inl p ↦ absurd (never p) | inr q ↦ h.1 q ])
or_else (Err e) P Q never h = tt
