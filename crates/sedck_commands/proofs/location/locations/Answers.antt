use Rattle.sedck_commands.proofs.Common.{◌∙◌, ◌++◌, ◌∷◌, [], take, ap, sym, locations_in, take_more}
use Rattle.sedck_commands.proofs.StateLemmas.{locations_push, locations_closing}
use Rattle.sedck_commands.proofs.location.locations.Goals as goal
use Rattle.sedck_commands.proofs.location.locations.Goals.{in-Command+in_ok-push, in_default}

pub loop-item-preserved : goal.loop-item-preserved
loop-item-preserved c =
    let before = take c.loop-item.item-index c.args.items.now in
    let one = take_more c.args.items.now c.loop-item.item-index c.item-item.result c.loop-item-test.true ∙ ap (λ x. before ++ x ∷ []) (sym c.item-item.is) in
    elim c.match-item.branch [
      | in-Command+in_ok-push w ↦
          ap (λ v. v.items) w.locations-is ∙ w.in_ok-push.ensures.items ∙ ap (λ l. l ++ w.in-Command.command.location ∷ []) c.loop-item.invariant
          ∙ sym (ap locations_in (one ∙ ap (λ x. before ++ x ∷ []) w.in-Command.is) ∙ locations_push before w.in-Command.command)
      | in_default w ↦
          ap (λ v. v.items) w.locations-is ∙ c.loop-item.invariant
          ∙ sym (ap locations_in (one ∙ ap (λ x. before ++ x ∷ []) w.in_default.is) ∙ locations_closing before)
    ]
