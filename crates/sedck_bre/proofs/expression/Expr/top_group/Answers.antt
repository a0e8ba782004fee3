use Rattle.sedck_bre.proofs.Common.{sym, ap, ◌∙◌, list_any, tree, is_group, is_top_group, tree-Seq}
use Rattle.sedck_bre.proofs.TopGroup.{item_any}
use Rattle.sedck_bre.proofs.expression.Expr.top_group.Goals as goal

pub returns-in-Seq : goal.returns-in-Seq
returns-in-Seq c =
    c.has_group.ensures ∙ ap (list_any (λ b. is_group c.args.k (tree b))) c.deref.ensures.value ∙ item_any c.args.k c.in-Seq.items.items
    ∙ sym (ap (λ t. is_top_group t c.args.k) (sym c.self.view_is ∙ ap tree c.in-Seq.is ∙ tree-Seq c.in-Seq.items))
