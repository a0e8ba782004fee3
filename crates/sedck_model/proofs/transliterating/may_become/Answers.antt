use Rattle.sedck_model.proofs.Common.{sym, ◌∙◌, false≢true}
use Rattle.sedck_model.proofs.TransliterateLemmas.{may_stay}
use Rattle.sedck_model.proofs.transliterating.may_become.Goals as goal

pub returns-then-old-new : goal.returns-then-old-new
returns-then-old-new c =
    may_stay c.args.from.now c.args.to.now c.args.old c.args.new c.has_partner.result c.has_partner.ensures
    (λ h. false≢true (sym c.if-is_partner.false ∙ c.is_partner.ensures.1 h)) c.if-old-new.true
