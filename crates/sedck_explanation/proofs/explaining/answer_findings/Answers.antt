use Rattle.sedck_explanation.proofs.Common.{◌≡◌, ◌∙◌, false, List, [], ◌∷◌, ◌++◌, ap, sym, subst, has_locale, is_warning, Finding, IsFindingOf, AreFindingsOf, if_some_at}
use Rattle.sedck_explanation.proofs.Errors.{finding_alone}
use Rattle.sedck_explanation.proofs.Reports.{locale_alone}
use Rattle.sedck_explanation.proofs.explaining.answer_findings.Goals as goal

pub returns-clause-answer : goal.returns-clause-answer
returns-clause-answer c =
    let text = c.args.text.now in
    let positions = c.args.positions.now in
    let answer = c.args.answer.now in
    let finding = c.in-Some.finding in
    let items : c.push.new.self.items ≡ finding ∷ [] =
    c.in_ok-push.ensures.items ∙ ap (λ (before : List Finding). before ++ (finding ∷ [])) c.new-findings.ensures.items in
    subst (AreFindingsOf text positions answer) (sym items)
    (finding_alone text positions answer finding (subst (IsFindingOf text positions answer) c.in-Some.is c.in_ok-finding.ensures.answer))

pub returns-clause-locale : goal.returns-clause-locale
returns-clause-locale c =
    let finding = c.in-Some.finding in
    let items : c.push.new.self.items ≡ finding ∷ [] =
    c.in_ok-push.ensures.items ∙ ap (λ (before : List Finding). before ++ (finding ∷ [])) c.new-findings.ensures.items in
    ap has_locale items ∙ locale_alone finding (if_some_at (λ (f : Finding). is_warning f.level ≡ false) c.in-Some.is c.in_ok-finding.ensures.warning)
