use Rattle.sedck_model.proofs.Common.{get_or, ap, ◌∙◌, refl, Some, arith, below_more, false≢true}
use Rattle.std.proofs.lemmas.Option.{slice_get-get_or, get_or_from_slice_get}
use Rattle.sedck_model.proofs.TransliterateLemmas.{no_partner}
use Rattle.sedck_model.proofs.transliterating.has_partner.Goals as goal

pub returns-then-from-i : goal.returns-then-from-i
returns-then-from-i c =
    let i = c.loop-i.i in
    (λ _. (get_or c.args.to.now i 0, (i, slice_get-get_or c.args.from.now i 0 (omega arith) ∙ ap Some c.if-from-i.true, slice_get-get_or c.args.to.now i 0 (omega arith))), λ _. refl)

pub loop-i-preserved : goal.loop-i-preserved
loop-i-preserved c = below_more _ _ c.loop-i.invariant (λ e. c.if-from-i.false (get_or_from_slice_get c.args.from.now c.loop-i.i c.args.byte 0 e))

pub returns : goal.returns
returns c =
    (λ e. absurd (false≢true e), λ h. absurd (no_partner c.args.from.now c.args.to.now c.args.byte c.loop-i.i (omega arith) c.loop-i.invariant h.0 h.1))
