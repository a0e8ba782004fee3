use Rattle.sedck_search.proofs.Common.{◌≡◌, ◌*◌, false, sym, ◌∙◌, subst, inl, inr, arith, cases_lt}
use Rattle.sedck_search.specs.Private.NodeSet.{has}
use Rattle.sedck_search.proofs.NodeSets.{count_none}
use Rattle.sedck_search.proofs.NextNode.{first_next, first_none, later_next, later_none, last_none}
use Rattle.sedck_search.proofs.node_set.NodeSet.next_from.Goals as goal

pub returns-then-self-eq0 : goal.returns-then-self-eq0
returns-then-self-eq0 c = λ i _. subst (λ members. has members i ≡ false) c.self.view_is
    (count_none c.self.inside.words c.self.invariant.0 (sym c.self.invariant.1 ∙ c.if-self-eq0.true) i)

pub returns-then-first-ge256 : goal.returns-then-first-ge256
returns-then-first-ge256 c = λ i above. last_none c.self.inside.words c.args.self.now c.self.view_is c.self.invariant.0 i
    (omega (arith, above, c.if-first-ge256.true))

pub returns-then-word-ne0 : goal.returns-then-word-ne0
returns-then-word-ne0 c = first_next c.self.inside.words c.args.self.now c.args.from c.self.view_is c.self.invariant.0 c.if-first-ge256.false c.if-word-ne0.true

pub loop-at-init : goal.loop-at-init
loop-at-init c = first_none c.self.inside.words c.args.self.now c.args.from c.self.view_is c.if-word-ne0.false

pub returns-then-word-ne0-2 : goal.returns-then-word-ne0-2
returns-then-word-ne0-2 c =
    later_next c.self.inside.words c.args.self.now c.args.from c.loop-at.at c.self.view_is c.self.invariant.0 c.loop-at-test.true c.loop-at.auto.at
    c.loop-at.invariant c.if-word-ne0-2.true

pub loop-at-preserved : goal.loop-at-preserved
loop-at-preserved c =
    later_none c.self.inside.words c.args.self.now c.args.from c.loop-at.at c.self.view_is c.loop-at.auto.at c.loop-at.invariant c.if-word-ne0-2.false

pub returns : goal.returns
returns c = λ i above. elim (cases_lt i (64 * c.loop-at.at)) [
  | inl less ↦ c.loop-at.invariant i above less
  | inr more ↦ last_none c.self.inside.words c.args.self.now c.self.view_is c.self.invariant.0 i (omega (arith, more, c.loop-at-test.false))
]
