use Rattle.sedck_explanation.proofs.Common.{◌≡◌, ◌∙◌, ◌||◌, ◌&&◌, ◌++◌, Bool, true, false, not, List, Some, refl, ap, subst, has_locale, warns_of, Finding, Position, AddsNoError, denies, Denied, expressions_of, status_under, Expressions, AreFindingsOf, AreDeniedFindings, AreReported, no_error_append, warned_behind}
use Rattle.sedck_advice.specs.Locale.{depends_on_locale}
use Rattle.sedck_explanation.specs.Private.Explaining.{kinds_of}
use Rattle.sedck_advice.proofs.Added.{no_error_trans}
use Rattle.sedck_explanation.proofs.Errors.{errors_of, findings_stay}
use Rattle.sedck_explanation.proofs.Reports.{no_locale_append}
use Rattle.sedck_explanation.proofs.Kept.{errors_reported, status_reported}
use Rattle.sedck_explanation.proofs.explaining.reports.Goals as goal

pub returns-clause-reports : goal.returns-clause-reports
returns-clause-reports c =
    let text = c.args.asked.text.now in
    let script = c.args.located.now.script in
    let answer = c.args.answer.now in
    let positions = c.args.lists.now.positions.items in
    let begun = c.in_ok-found.found.items in
    let given = c.append.new.self.items in
    let found = c.add_warnings.new.findings.items in
    let all = c.in_ok-all.all.items in
    let findings = c.in_ok-findings.findings.items in
    let has : Expressions = expressions_of (Some script) in
    let kinds : kinds_of c.in_ok-expressions.expressions ≡ has = c.in_ok-expressions.ensures in
    let status : c.status_under-status.result ≡ status_under c.args.asked.denied all has answer =
    c.status_under-status.ensures.value
    ∙ ap (λ (findings : List Finding). status_under c.args.asked.denied findings c.kinds.result answer) c.deref-7.ensures.value
    ∙ ap (λ (is : Expressions). status_under c.args.asked.denied all is answer) (c.kinds.ensures ∙ kinds) in
    let of_answer : AreFindingsOf text positions answer begun =
    subst (λ (ps : List Position). AreFindingsOf text ps answer begun) c.deref.ensures.value c.in_ok-found.ensures.answer in
    let due = c.due_warnings.new.findings.items in
    let adds : AddsNoError begun found =
    no_error_trans begun given found (no_error_append begun given c.args.asked.warnings.items c.in_ok-append.ensures.items c.requires.errors)
    (no_error_trans given due found c.in_ok-due_warnings.ensures.added c.in_ok-add_warnings.ensures.adds) in
    let locale : has_locale found ≡ (not c.args.asked.denied.c_locale && depends_on_locale script) =
    c.in_ok-add_warnings.ensures.locale ∙ c.in_ok-due_warnings.ensures.exactly
    ∙ ap (λ was. was || (not c.args.asked.denied.c_locale && depends_on_locale script))
    (no_locale_append begun given c.args.asked.warnings.items c.in_ok-append.ensures.items c.in_ok-found.ensures.locale c.requires.locale) in
    let reported : AreReported text c.args.asked.denied.warnings all findings = c.in_ok-findings.ensures in
    let errors = errors_reported text positions answer c.args.asked.denied.warnings all findings c.status_under-status.result reported
    (errors_of text positions c.args.asked.denied has answer found all c.status_under-status.result
    (findings_stay text positions answer begun found adds of_answer)
    (subst (λ (is : Expressions). AreDeniedFindings c.args.asked.denied is found all answer) kinds c.in_ok-all.ensures.errors) status) in
    record {
      is_status = status_reported text c.args.asked.denied has answer all findings c.status_under-status.result reported status;
      locale = reported.locale ∙ c.in_ok-all.ensures.locale ∙ locale;
      exactly = errors.0;
      first = errors.1;
      order = reported.order;
      ends = reported.ends;
    }

-- a warning that is given and denied stays from one list to the next
pub returns-clause-warned : goal.returns-clause-warned
returns-clause-warned c = λ warned.
    let kind = denies c.args.asked.denied.warnings in
    let begun = c.in_ok-found.found.items in
    let given = c.append.new.self.items in
    let placed : warns_of kind given ≡ true = warned_behind begun given c.args.asked.warnings.items c.in_ok-append.ensures.items kind warned in
    let found : warns_of kind c.add_warnings.new.findings.items ≡ true =
    c.in_ok-add_warnings.ensures.adds.warned kind (c.in_ok-due_warnings.ensures.added.warned kind placed) in
    let reported : AreReported c.args.asked.text.now c.args.asked.denied.warnings c.in_ok-all.all.items c.in_ok-findings.findings.items = c.in_ok-findings.ensures in
    reported.warnings ∙ c.in_ok-all.ensures.denied ∙ found
