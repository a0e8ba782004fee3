use Rattle.sedck_search.proofs.Common.{◌≡◌, ◌<◌, ℕ, Some, slice_get, Command, IsLastAlone}
use Rattle.sedck_search.proofs.other_side.asks_for_last.Given as goal

-- none of the commands so far
abbrev pub invariant-loop-command : goal.invariant-loop-command
invariant-loop-command l = (at : ℕ) → at < l.command-index → (c : Command) → slice_get l.script.commands at ≡ Some c → ¬ IsLastAlone c.address
