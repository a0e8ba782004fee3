use Rattle.sedck_explain_cli.proofs.Common.{◌≡◌, ◌-◌, ◌≤◌, take, drop, is_named}
use Rattle.sedck_explain_cli.proofs.Readings.{any_named}
use Rattle.sedck_explain_cli.proofs.reading.names.Given as goal

-- no name so far is the one
abbrev pub invariant-loop-at : goal.invariant-loop-at
invariant-loop-at l = record {
  within : l.start ≤ l.at;
  rest : any_named l.name (take (l.at - l.start) (drop l.start l.list)) (drop l.at l.list) ≡ is_named l.list l.name;
}
