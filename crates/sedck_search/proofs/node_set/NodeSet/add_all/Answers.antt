use Rattle.sedck_search.proofs.Common.{subst, ◌∙◌, arith, IsUnion}
use Rattle.sedck_search.proofs.NodeBits.{both_set, both_union, both_before, both_from}
use Rattle.sedck_search.proofs.node_set.NodeSet.add_all.Goals as goal

pub invariant_of-self : goal.invariant_of-self
invariant_of-self c =
    let before = both_before c.self.inside.words c.other.inside.words c.both-words.result c.self.invariant.0 c.both-words.ensures
    c.self.inside.first c.other.inside.first c.min-self-inside.result c.self.invariant.2 c.self.invariant.3 c.other.invariant.3
    (omega (arith, c.min-self-inside.ensures)) (omega (arith, c.min-self-inside.ensures)) in
    let from = both_from c.self.inside.words c.other.inside.words c.both-words.result c.both-words.ensures c.self.inside.end c.other.inside.end
    c.max-self-inside.result c.self.invariant.5 c.other.invariant.5 (omega (arith, c.max-self-inside.ensures)) (omega (arith, c.max-self-inside.ensures)) in (
      both_set c.self.inside.words c.other.inside.words c.both-words.result c.self.invariant.0 c.other.invariant.0 c.both-words.ensures,
      c.count_between-self-inside.ensures before from,
      omega (arith, c.min-self-inside.ensures, c.self.invariant.2),
      before,
      omega (arith, c.max-self-inside.ensures, c.self.invariant.4, c.other.invariant.4),
      from,
    )

pub returns-clause-nodes : goal.returns-clause-nodes
returns-clause-nodes c =
    subst (λ left. IsUnion left c.args.other.now c.both-words.result) c.self.view_is
    (subst (λ right. IsUnion c.self.inside.words right c.both-words.result) c.other.view_is
    (both_union c.self.inside.words c.other.inside.words c.both-words.result c.self.invariant.0 c.other.invariant.0 c.both-words.ensures))

pub returns-clause-is_set : goal.returns-clause-is_set
returns-clause-is_set c =
    both_set c.self.inside.words c.other.inside.words c.both-words.result c.self.invariant.0 c.other.invariant.0 c.both-words.ensures
