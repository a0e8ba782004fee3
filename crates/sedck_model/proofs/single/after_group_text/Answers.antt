use Rattle.sedck_model.proofs.SingleLemmas.{repeats_next, repeats_none}
use Rattle.sedck_model.proofs.single.after_group_text.Goals as goal

pub returns-then-starts_with : goal.returns-then-starts_with
returns-then-starts_with c =
    repeats_next c.args.text.now c.group_text-found.result.now c.args.spot.now c.args.group c.requires c.group_text-found.ensures c.if-starts_with.ensures.value

pub returns-else-starts_with : goal.returns-else-starts_with
returns-else-starts_with c =
    repeats_none c.args.text.now c.group_text-found.result.now c.args.spot.now c.args.group c.group_text-found.ensures c.if-starts_with.ensures.value
