use Rattle.sedck_search.proofs.Common.{◌≡◌, ◌/◌, subst, false, true, ap, ◌∙◌, arith, HasChanged}
use Rattle.std.proofs.Common.{set}
use Rattle.sedck_search.specs.Private.NodeSet.{has}
use Rattle.sedck_search.proofs.NodeBits.{removed, removed_set, without_bit, removed_before, removed_from}
use Rattle.sedck_search.proofs.NodeSets.{removed_count, counts_node}
use Rattle.sedck_search.proofs.node_set.NodeSet.remove.Goals as goal

pub overflow_sub-self : goal.overflow_sub-self
overflow_sub-self c =
    let present : has c.self.inside.words c.args.node ≡ true = ap (λ words. has words c.args.node) c.self.view_is ∙ c.requires.present in
    omega (arith, c.self.invariant.1, counts_node c.self.inside.words c.self.invariant.0 c.args.node present)

pub invariant_of-self : goal.invariant_of-self
invariant_of-self c =
    let members = removed_set c.self.inside.words c.args.node c.requires.inside c.self.invariant.0 in
    let present : has c.self.inside.words c.args.node ≡ true = ap (λ words. has words c.args.node) c.self.view_is ∙ c.requires.present in
    let fewer = removed_count c.self.inside.words (set c.self.inside.words (c.args.node / 64) (without_bit c.self.inside.words c.args.node)) c.self.invariant.0
    members c.args.node (removed c.self.inside.words c.args.node c.requires.inside c.self.invariant.0) present in (
      members,
      omega (arith, fewer, c.self.invariant.1),
      c.self.invariant.2,
      removed_before c.self.inside.words c.args.node c.self.inside.first c.requires.inside c.self.invariant.0 c.self.invariant.3,
      c.self.invariant.4,
      removed_from c.self.inside.words c.args.node c.self.inside.end c.requires.inside c.self.invariant.0 c.self.invariant.5,
    )

pub returns-clause-changed : goal.returns-clause-changed
returns-clause-changed c =
    subst (λ before. HasChanged before (set c.self.inside.words (c.args.node / 64)
    (without_bit c.self.inside.words c.args.node)) c.args.node false) c.self.view_is
    (removed c.self.inside.words c.args.node c.requires.inside c.self.invariant.0)

pub returns-clause-is_set : goal.returns-clause-is_set
returns-clause-is_set c = removed_set c.self.inside.words c.args.node c.requires.inside c.self.invariant.0
