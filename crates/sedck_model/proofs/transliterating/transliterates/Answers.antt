use Rattle.sedck_model.proofs.Common.{arith, refl, sym, ◌∙◌, below_more, false≢true}
use Rattle.sedck_model.proofs.TransliterateLemmas.{same_length, at_each, from_each}
use Rattle.sedck_model.proofs.transliterating.transliterates.Goals as goal

pub returns-then-old_text-new_text : goal.returns-then-old_text-new_text
returns-then-old_text-new_text c =
    (λ e. absurd (false≢true e), λ h. absurd (c.if-old_text-new_text.true (same_length c.args.from.now c.args.to.now c.args.old_text.now c.args.new_text.now h)))

pub returns-then-not-may_become : goal.returns-then-not-may_become
returns-then-not-may_become c =
    (λ e. absurd (false≢true e), λ h. absurd (false≢true (sym c.if-not-may_become.true ∙ c.may_become.ensures.1 (at_each c.args.from.now c.args.to.now c.args.old_text.now c.args.new_text.now h c.loop-i.i (omega arith)))))

pub loop-i-preserved : goal.loop-i-preserved
loop-i-preserved c = below_more _ _ c.loop-i.invariant (c.may_become.ensures.0 c.if-not-may_become.false)

pub returns : goal.returns
returns c =
    (λ _. from_each c.args.from.now c.args.to.now c.args.old_text.now c.args.new_text.now (omega arith) (λ k below. c.loop-i.invariant k (omega arith)), λ _. refl)
