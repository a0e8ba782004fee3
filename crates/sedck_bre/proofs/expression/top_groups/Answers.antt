use Rattle.sedck_bre.proofs.Common.{sym, ap, ◌∙◌, list_any, tree, tree-Seq, is_group, is_top_group}
use Rattle.sedck_bre.proofs.TopGroup.{item_any, no_groups}
use Rattle.sedck_bre.proofs.expression.top_groups.Goals as goal

pub returns-then-groups-eq0 : goal.returns-then-groups-eq0
returns-then-groups-eq0 c = no_groups (tree c.args.expression.now) (sym c.requires ∙ c.if-groups-eq0.true)

pub returns-in-Seq : goal.returns-in-Seq
returns-in-Seq c k l =
    c.groups_among.ensures k l ∙ ap (list_any (λ b. is_group k (tree b))) c.deref.ensures.value ∙ item_any k c.in-Seq.items.items
    ∙ sym (ap (λ t. is_top_group t k) (ap tree c.in-Seq.is ∙ tree-Seq c.in-Seq.items))
