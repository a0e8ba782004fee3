use Rattle.sedck_cert.proofs.Common.{length, refl, ◌∙◌, sym, ap, arith, length-map, command_of, FlowFrom, AllLowerFirst}
use Rattle.sedck_cert.proofs.CheckingLemmas.{leaves_below}
use Rattle.sedck_cert.proofs.falling.lowers_first_ranks.Goals as goal

-- an edge of this node doesn't lower the first rank
pub returns-then-not-lowers_first_from-clause-falls : goal.returns-then-not-lowers_first_from-clause-falls
returns-then-not-lowers_first_from-clause-falls c = (
  λ never. cc,
  λ all. absurd (
      let here : AllLowerFirst c.args.cert.now (FlowFrom c.args.script.now c.nth.result) = λ e is. all e is.0 in
      let yes = c.lowers_first_from.ensures.1 here in
      let no = c.if-not-lowers_first_from.true in
      cc
      ),
)

-- no node is left
pub returns-clause-falls : goal.returns-clause-falls
returns-clause-falls c =
    let long = sym (length-map c.commands.result.now command_of) ∙ ap length c.commands.ensures.commands in
    (λ _ e is_edge. c.loop-index.invariant e (is_edge, omega (arith, leaves_below c.args.script.now e is_edge, long)), λ _. refl)
