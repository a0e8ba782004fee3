use Rattle.sedck_explanation.proofs.Common.{◌≡◌, ◌∙◌, ◌&&◌, Bool, true, false, not, List, None, [], refl, ap, sym, subst, Finding, denies, expressions_of, status_under, Expressions, BeginsWithAnswer, AreFindingsOf, AreReported, no_error_append, warned_behind}
use Rattle.sedck_explanation.proofs.Errors.{errors_of_refusal, findings_stay}
use Rattle.sedck_explanation.proofs.Reports.{no_locale_append}
use Rattle.sedck_explanation.proofs.Kept.{errors_reported, status_reported}
use Rattle.sedck_explanation.proofs.explaining.refused.Goals as goal

and_false : (a : Bool) → (a && false) ≡ false
and_false true = refl
and_false false = refl

pub returns-clause-explains : goal.returns-clause-explains
returns-clause-explains c =
    let text = c.args.asked.text.now in
    let answer = c.args.answer in
    let none : Expressions = expressions_of None in
    let begun = c.in_ok-found.found.items in
    let found = c.append.new.self.items in
    let all = c.in_ok-findings.findings.items in
    let status : c.status_under-status.result ≡ status_under c.args.asked.denied found none answer =
    c.status_under-status.ensures.value
    ∙ ap (λ (findings : List Finding). status_under c.args.asked.denied findings none answer) c.deref.ensures.value in
    let of_answer : AreFindingsOf text [] answer found =
    findings_stay text [] answer begun found (no_error_append begun found c.args.asked.warnings.items c.in_ok-append.ensures.items c.requires.errors) c.in_ok-found.ensures.answer in
    let reported : AreReported text c.args.asked.denied.warnings found all = c.in_ok-findings.ensures in
    let errors = errors_reported text [] answer c.args.asked.denied.warnings found all c.status_under-status.result reported
    (errors_of_refusal text c.args.asked.denied none answer found c.status_under-status.result c.requires.refusal of_answer status) in
    record {
      is_text = refl;
      is_answer = refl;
      is_status = status_reported text c.args.asked.denied none answer found all c.status_under-status.result reported status;
      locale = reported.locale ∙ no_locale_append begun found c.args.asked.warnings.items c.in_ok-append.ensures.items c.in_ok-found.ensures.locale c.requires.locale
          ∙ sym (and_false (not c.args.asked.denied.c_locale));
      errors = record {
        exactly = errors.0;
        first = subst (λ positions. BeginsWithAnswer text positions all answer) (sym c.new.ensures.items) errors.1;
      };
      order = reported.order;
      ends = reported.ends;
    }

pub returns-clause-warned : goal.returns-clause-warned
returns-clause-warned c = λ warned.
    let begun = c.in_ok-found.found.items in
    let given = c.append.new.self.items in
    let reported : AreReported c.args.asked.text.now c.args.asked.denied.warnings given c.in_ok-findings.findings.items = c.in_ok-findings.ensures in
    reported.warnings ∙ warned_behind begun given c.args.asked.warnings.items c.in_ok-append.ensures.items (denies c.args.asked.denied.warnings) warned
