use Rattle.sedck_script.proofs.Common.{sym, subst, if_err_from, ap, ◌∙◌, Some, item_label, item_of, slice_get-get_or, IsItemAt}
use Rattle.sedck_script.proofs.resolving.check_targets.Goals as goal

pub returns-in_err-check_target-clause-first : goal.returns-in_err-check_target-clause-first
returns-in_err-check_target-clause-first c =
    let lost = c.in_err-check_target.ensures.first in
    if_err_from _ c.from_residual.result _ c.from_residual.ensures.1 (record {
      place = c.loop-item.item-index;
      command = lost.0;
      here = slice_get-get_or c.args.items.now c.loop-item.item-index _ c.loop-item-test.true ∙ ap Some (sym c.item-item.is ∙ lost.2);
      before = c.loop-item.invariant;
      name = lost.1;
      label = ap (λ i. item_label (item_of i)) (sym lost.2) ∙ lost.3;
      lost = lost.4;
      at = λ text all. lost.5 text (subst (IsItemAt text) (sym c.item-item.is) (all c.loop-item.item-index _ c.loop-item-test.true));
    })
