use Rattle.sedck_advice.proofs.Common.{◌≡◌, ◌&&◌, true, refl, ap, is_error, is_warning, is_locale}
use Rattle.sedck_advice.proofs.Added.{no_error_push}
use Rattle.sedck_advice.proofs.WeightLemmas.{locale_push}
use Rattle.sedck_advice.proofs.locale.push_locale.Goals as goal

pub returns-clause-added : goal.returns-clause-added
returns-clause-added c = no_error_push _ _ _ c.in_ok-push.ensures.items (ap is_error c.new-finding.ensures.level)

pub returns-clause-exactly : goal.returns-clause-exactly
returns-clause-exactly c =
    let made = c.new-finding.result in
    let warns : (is_warning made.level && is_locale made.code) ≡ true = rw (c.new-finding.ensures.level, c.new-finding.ensures.code) refl in
    locale_push _ _ _ c.in_ok-push.ensures.items warns
