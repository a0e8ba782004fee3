use Rattle.std.proofs.Common.{◌≡◌, drop}
use Rattle.std.specs.List.{list_any}
use Rattle.sedck_call.specs.Calls.{runs_nothing, is_idle as is_idle_call}
use Rattle.sedck_call.proofs.call.is_idle.Given as goal

-- none so far
abbrev pub invariant-loop-item : goal.invariant-loop-item
invariant-loop-item l = list_any runs_nothing (drop l.item-index l.given) ≡ is_idle_call l.given
