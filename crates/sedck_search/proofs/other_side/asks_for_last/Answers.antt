use Rattle.sedck_search.proofs.Common.{◌≡◌, length, sym, ap, ◌∙◌, subst, inl, inr, arith, cases_lt, length-map, same_Some, slice_get_past, Command, command_of, IsLastAlone, none-some, read_command}
use Rattle.sedck_search.proofs.other_side.asks_for_last.Goals as goal

pub loop-command-preserved : goal.loop-command-preserved
loop-command-preserved c = λ at below k is alone. elim (cases_lt at c.loop-command.command-index) [
  | inl less ↦ c.loop-command.invariant at less k is alone
  | inr more ↦
      let place : c.loop-command.command-index ≡ at = omega (arith, below, more) in
      let found = read_command c.args.script.now c.commands-command-items.result.now c.loop-command.command-index at c.command-item.result
      c.commands-command-items.ensures.commands place c.loop-command-test.true c.command-item.is in
      let same : k ≡ command_of c.command-item.result = same_Some _ _ (sym is ∙ found) in
      let test = c.is_last_alone.ensures.1 (subst (λ (x : Command). IsLastAlone x.address) same alone) in
      let fails = c.if-is_last_alone.false in
      cc
]

pub returns : goal.returns
returns c = λ at k is alone. elim (cases_lt at c.loop-command.command-index) [
  | inl less ↦ c.loop-command.invariant at less k is alone
  | inr more ↦
      let all = c.commands-command-items.ensures.commands in
      absurd (none-some _ (sym (slice_get_past c.args.script.now.commands at
      (omega (arith, more, c.loop-command-test.false, ap length all, length-map c.commands-command-items.result.now command_of))) ∙ is))
]
