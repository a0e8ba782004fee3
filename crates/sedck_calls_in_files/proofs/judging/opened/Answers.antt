use Rattle.sedck_calls_in_files.proofs.Common.{◌≡◌, ◌∙◌, ◌++◌, refl, sym, ap, take, Agrees, KeepsFindings, IsFindingIn}
use Rattle.std.proofs.Common.{drop, take-append-drop}
use Rattle.sedck_calls_in_files.proofs.Lists.{all_between}
use Rattle.sedck_calls_in_files.proofs.Findings.{keeps_between, placed_warnings}
use Rattle.sedck_calls_in_files.proofs.judging.opened.Goals as goal
use Rattle.sedck_calls_in_files.proofs.judging.opened.Goals.{then-is_accepted, else-is_accepted}

pub returns-clause-agrees : goal.returns-clause-agrees
returns-clause-agrees c =
    let before = c.args.explanation.findings.items in
    let n = c.error_count-errors.result in
    let findings : KeepsFindings before c.append-2.new.self.items =
    keeps_between c.args.file.now before (take n before) c.args.warnings.items (drop n before) c.append-2.new.self.items (sym (take-append-drop n before))
    (c.in_ok-append-2.ensures.items ∙ ap (λ front. front ++ c.in_ok-rest.rest.items) c.in_ok-append.ensures.items
    ∙ ap (λ front. (front ++ c.args.warnings.items) ++ c.in_ok-rest.rest.items) c.in_ok-rest.ensures.items
    ∙ ap (λ back. (take n before ++ c.args.warnings.items) ++ back) c.in_ok-rest.ensures.tail) c.requires.warnings in
    let same : Agrees c.args.explanation (record c.args.explanation { findings = c.append-2.new.self }) =
    record { answer = refl; script = refl; reads = refl; writes = refl; findings = findings } in
    elim c.if-is_accepted.branch [
      | then-is_accepted w ↦ rw w.explanation-is (record { answer = refl; script = refl; reads = refl; writes = refl; findings = findings })
      | else-is_accepted w ↦ rw w.explanation-is same
    ]

pub returns-clause-places : goal.returns-clause-places
returns-clause-places c =
    let back = c.in_ok-rest.rest.items in
    let whole = c.if-is_accepted.explanation.findings.items in
    let is : whole ≡ c.append-2.new.self.items =
    elim c.if-is_accepted.branch [
      | then-is_accepted w ↦ ap (λ e. e.findings.items) w.explanation-is
      | else-is_accepted w ↦ ap (λ e. e.findings.items) w.explanation-is
    ] in
    all_between (IsFindingIn c.args.file.now) c.args.explanation.findings.items c.args.warnings.items c.split_off.new.self.items back whole
    c.error_count-errors.result c.in_ok-rest.ensures.items c.in_ok-rest.ensures.tail
    (is ∙ c.in_ok-append-2.ensures.items ∙ ap (λ front. front ++ back) c.in_ok-append.ensures.items) c.requires.findings
    (placed_warnings c.args.file.now c.args.warnings.items c.requires.warnings)
