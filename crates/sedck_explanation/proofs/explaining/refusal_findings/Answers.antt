use Rattle.sedck_explanation.proofs.Common.{◌≡◌, ◌∙◌, List, [], ◌∷◌, ◌++◌, ap, sym, subst, has_locale, is_warning, Finding, AreFindingsOf, Answer, ScriptRefused}
use Rattle.sedck_explanation.proofs.Errors.{finding_alone}
use Rattle.sedck_explanation.proofs.Reports.{locale_alone}
use Rattle.sedck_explanation.proofs.explaining.refusal_findings.Goals as goal

pub returns-clause-answer : goal.returns-clause-answer
returns-clause-answer c =
    let text = c.args.text.now in
    let finding = c.in_ok-script_refusal.field-0 in
    let items : c.push.new.self.items ≡ finding ∷ [] =
    c.in_ok-push.ensures.items ∙ ap (λ (before : List Finding). before ++ (finding ∷ [])) c.new-findings.ensures.items in
    subst (AreFindingsOf text [] c.args.answer.now) (sym items)
    (subst (λ (answer : Answer). AreFindingsOf text [] answer (finding ∷ [])) (sym c.in-ScriptRefused.is)
    (finding_alone text [] (ScriptRefused _) finding (c.in_ok-script_refusal.ensures.level, c.in_ok-script_refusal.ensures.position)))

pub returns-clause-locale : goal.returns-clause-locale
returns-clause-locale c =
    let finding = c.in_ok-script_refusal.field-0 in
    let items : c.push.new.self.items ≡ finding ∷ [] =
    c.in_ok-push.ensures.items ∙ ap (λ (before : List Finding). before ++ (finding ∷ [])) c.new-findings.ensures.items in
    ap has_locale items ∙ locale_alone finding (ap is_warning c.in_ok-script_refusal.ensures.level)
