use Rattle.std.proofs.Common.{◌≡◌, map, take}
use Rattle.sedck_flow.specs.Run.{Steps, state_after}
use Rattle.sedck_model.specs.States.{state_of, move_of}
use Rattle.sedck_endless.proofs.rounds.leads.Given as goal

-- the steps so far are those of the model, and this is where they lead
abbrev pub invariant-loop-next : goal.invariant-loop-next
invariant-loop-next l = record {
  goes : Steps l.script (state_of l.from) (take l.next-index (map move_of l.steps));
  here : state_of l.before ≡ state_after (state_of l.from) (take l.next-index (map move_of l.steps));
}
