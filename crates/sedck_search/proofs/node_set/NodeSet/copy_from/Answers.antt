use Rattle.sedck_search.proofs.Common.{◌≡◌, ◌≤◌, List, ℕ, subst, sym, ◌∙◌, bit_count, IsNodeSet, AreZeroBefore, AreZeroFrom}
use Rattle.sedck_search.proofs.NodeBits.{copied}
use Rattle.sedck_search.proofs.node_set.NodeSet.copy_from.Goals as goal

pub invariant_of-self : goal.invariant_of-self
invariant_of-self c =
    let same = copied c.self.inside.words c.other.inside.words c.copy_from_slice.new.self c.self.inside.first c.other.inside.first c.self.inside.end c.other.inside.end
    c.min.result c.min-start.result c.max-end.result c.self.invariant.0 c.other.invariant.0 c.self.invariant.3 c.other.invariant.3 c.self.invariant.5
    c.other.invariant.5 c.max-end.ensures c.min.ensures c.min-start.ensures c.copy_from_slice.ensures.after in
    subst (λ (words : List ℕ). IsNodeSet words × (c.other.inside.count ≡ bit_count words) × (c.other.inside.first ≤ 256) × AreZeroBefore words c.other.inside.first
    × (c.other.inside.end ≤ 256) × AreZeroFrom words c.other.inside.end) (sym same) c.other.invariant

pub returns-clause-same : goal.returns-clause-same
returns-clause-same c =
    copied c.self.inside.words c.other.inside.words c.copy_from_slice.new.self c.self.inside.first c.other.inside.first c.self.inside.end c.other.inside.end
    c.min.result c.min-start.result c.max-end.result c.self.invariant.0 c.other.invariant.0 c.self.invariant.3 c.other.invariant.3 c.self.invariant.5
    c.other.invariant.5 c.max-end.ensures c.min.ensures c.min-start.ensures c.copy_from_slice.ensures.after
    ∙ c.other.view_is

pub returns-clause-is_set : goal.returns-clause-is_set
returns-clause-is_set c =
    let same = copied c.self.inside.words c.other.inside.words c.copy_from_slice.new.self c.self.inside.first c.other.inside.first c.self.inside.end c.other.inside.end
    c.min.result c.min-start.result c.max-end.result c.self.invariant.0 c.other.invariant.0 c.self.invariant.3 c.other.invariant.3 c.self.invariant.5
    c.other.invariant.5 c.max-end.ensures c.min.ensures c.min-start.ensures c.copy_from_slice.ensures.after in
    subst IsNodeSet (sym same) c.other.invariant.0
