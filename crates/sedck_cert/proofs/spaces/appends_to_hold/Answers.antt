use Rattle.sedck_cert.proofs.Common.{◌≡◌, length, refl, sym, ap, ◌∙◌, inl, inr, arith, cases_lt, length-map, none-some, Command, command_of, same_Some, slice_get_past}
use Rattle.sedck_flow.proofs.EdgesLemmas.{read_command}
use Rattle.sedck_cert.proofs.SpaceLemmas.{none_appends}
use Rattle.sedck_cert.proofs.spaces.appends_to_hold.Goals as goal

-- this command is `H`
pub returns-then-is_append : goal.returns-then-is_append
returns-then-is_append c =
    let found = read_command c.args.script.now c.commands-command-items.result.now c.loop-command.command-index c.loop-command.command-index c.command-item.result
    c.commands-command-items.ensures.commands refl c.loop-command-test.true c.command-item.is in
    (λ _. (c.loop-command.command-index, command_of c.command-item.result, found, c.is_append.ensures.0 c.if-is_append.true), λ _. refl)

-- one command more isn't
pub loop-command-preserved : goal.loop-command-preserved
loop-command-preserved c = λ at below k is appends. elim (cases_lt at c.loop-command.command-index) [
  | inl less ↦ c.loop-command.invariant at less k is appends
  | inr more ↦
      let place : c.loop-command.command-index ≡ at = omega (arith, below, more) in
      let found = read_command c.args.script.now c.commands-command-items.result.now c.loop-command.command-index at c.command-item.result
      c.commands-command-items.ensures.commands place c.loop-command-test.true c.command-item.is in
      let same : k ≡ command_of c.command-item.result = same_Some _ _ (sym is ∙ found) in
      let yes = c.is_append.ensures.1 (sym (ap (λ (x : Command). x.verb) same) ∙ appends) in
      let no = c.if-is_append.false in
      cc
]

-- no command is left
pub returns : goal.returns
returns c =
    let all = c.commands-command-items.ensures.commands in
    let none = none_appends c.args.script.now c.loop-command.command-index c.loop-command.invariant
    (λ at past k is. none-some _ (sym (slice_get_past c.args.script.now.commands at
    (omega (arith, past, c.loop-command-test.false, ap length all, length-map c.commands-command-items.result.now command_of))) ∙ is)) in
    (λ never. cc, λ some. absurd (none some))
