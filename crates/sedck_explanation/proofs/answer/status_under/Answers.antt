use Rattle.sedck_explanation.proofs.Common.{◌≡◌, ◌∙◌, true, false, List, refl, sym, ap, false≢true, Finding, Denied, is_denied, Expressions, Answer, ScriptRefused, CertificateRefused, Accepted, Rejected, Endless, NotJudged}
use Rattle.sedck_errors.proofs.Denials.{nothing_denied}
use Rattle.sedck_explanation.specs.Denial.{nothing}
use Rattle.sedck_explanation.proofs.answer.status_under.Goals as goal

-- where nothing is denied, no script has what is
none_denied : (findings : List Finding) (has : Expressions) (answer : Answer) → is_denied nothing findings has answer ≡ false
none_denied findings has (Accepted cert limits) = rw (nothing_denied findings) refl
none_denied findings has (ScriptRefused why) = refl
none_denied findings has (CertificateRefused why) = refl
none_denied findings has (Rejected cert why) = refl
none_denied findings has (Endless walk) = refl
none_denied findings has NotJudged = refl

pub returns-then-has_denied-clause-same : goal.returns-then-has_denied-clause-same
returns-then-has_denied-clause-same c = λ none.
    let answer : Answer = Accepted c.in-Accepted.cert c.in-Accepted.limits in
    let has : is_denied c.args.denied c.args.findings.now c.args.expressions answer ≡ true = sym c.has_denied.ensures ∙ c.if-has_denied.true in
    let not : is_denied c.args.denied c.args.findings.now c.args.expressions answer ≡ false =
    ap (λ (d : Denied). is_denied d c.args.findings.now c.args.expressions answer) none ∙ none_denied c.args.findings.now c.args.expressions answer in
    absurd (false≢true (sym not ∙ has))
