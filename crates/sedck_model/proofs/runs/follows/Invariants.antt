use Rattle.sedck_model.proofs.Common.{◌≡◌, ◌≤◌, [], ◌∷◌, map, take, Run, state_after, lines_of, state_of, move_of}
use Rattle.sedck_flow.specs.Run as model
use Rattle.sedck_model.proofs.runs.follows.Given as goal

-- the steps so far are a run, and this is where they lead
abbrev pub invariant-loop-i : goal.invariant-loop-i
invariant-loop-i l = record {
  spent : l.budget.left ≤ l.fn.budget.left;
  run : Run l.script (lines_of l.lines) (take l.i (map move_of l.steps));
  here : state_of l.before ≡ state_after (model.Start (lines_of l.lines ∷ [])) (take l.i (map move_of l.steps));
}
