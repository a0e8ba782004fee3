use Rattle.sedck_search.proofs.Common.{◌≡◌, ◌/◌, subst, false, true, refl, sym, ap, ◌∙◌, arith, HasChanged}
use Rattle.std.proofs.Common.{set}
use Rattle.sedck_search.specs.Private.NodeSet.{has}
use Rattle.sedck_search.proofs.NodeBits.{inserted, inserted_set, with_bit, inserted_before, inserted_from}
use Rattle.sedck_search.proofs.NodeSets.{inserted_count, count_within}
use Rattle.sedck_search.proofs.node_set.NodeSet.insert.Goals as goal

pub overflow_add-self : goal.overflow_add-self
overflow_add-self c = omega (arith, c.self.invariant.1, count_within c.self.inside.words c.self.invariant.0)

pub invariant_of-self : goal.invariant_of-self
invariant_of-self c =
    let members = inserted_set c.self.inside.words c.args.node c.requires c.self.invariant.0 in
    let absent : has c.self.inside.words c.args.node ≡ false = ap (λ words. has words c.args.node) c.self.view_is ∙ sym c.has.ensures.value ∙ c.if-has.false in
    let more = inserted_count c.self.inside.words (set c.self.inside.words (c.args.node / 64) (with_bit c.self.inside.words c.args.node)) c.self.invariant.0
    members c.args.node (inserted c.self.inside.words c.args.node c.requires c.self.invariant.0) absent in (
      members,
      omega (arith, more, c.self.invariant.1),
      omega (arith, c.min-self-inside.ensures, c.self.invariant.2),
      inserted_before c.self.inside.words c.args.node c.self.inside.first c.min-self-inside.result (omega (arith, c.min-self-inside.ensures))
          (omega (arith, c.min-self-inside.ensures)) c.self.invariant.3,
      omega (arith, c.max-self-inside.ensures, c.self.invariant.4, c.requires),
      inserted_from c.self.inside.words c.args.node c.self.inside.end c.max-self-inside.result (omega (arith, c.max-self-inside.ensures))
          (omega (arith, c.max-self-inside.ensures)) c.self.invariant.5,
    )

pub returns-then-has-clause-changed : goal.returns-then-has-clause-changed
returns-then-has-clause-changed c = record { at = sym c.has.ensures.value ∙ c.if-has.true; others = λ i other. refl }

pub returns-clause-changed : goal.returns-clause-changed
returns-clause-changed c =
    subst (λ before. HasChanged before (set c.self.inside.words (c.args.node / 64) (with_bit c.self.inside.words c.args.node)) c.args.node true) c.self.view_is
    (inserted c.self.inside.words c.args.node c.requires c.self.invariant.0)

pub returns-clause-is_set : goal.returns-clause-is_set
returns-clause-is_set c = inserted_set c.self.inside.words c.args.node c.requires c.self.invariant.0
