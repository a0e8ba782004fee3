use Rattle.std.proofs.Common.{sym, subst, ◌∙◌, bit_or}
use Rattle.sedck_bre.specs.Rests.{NamesTopGroups}
use Rattle.sedck_tests.proofs.GroupLemmas.{names_more}
use Rattle.sedck_tests.proofs.expressions.groups.with_group.Goals as goal

pub returns-then-top_group : goal.returns-then-top_group
returns-then-top_group c =
    subst (λ bit. NamesTopGroups c.args.expression.now (bit_or c.args.groups bit)) (sym c.requires.bit)
    (names_more c.args.expression.now c.args.groups c.args.k c.requires.named c.requires.first c.requires.last
    (sym c.top_group.ensures ∙ c.if-top_group.true))
