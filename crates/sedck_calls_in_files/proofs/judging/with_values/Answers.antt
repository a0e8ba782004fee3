use Rattle.sedck_calls_in_files.proofs.Common.{refl, All-append, IsFindingIn}
use Rattle.sedck_calls_in_files.proofs.Findings.{keeps_behind, placed_warnings}
use Rattle.sedck_calls_in_files.proofs.judging.with_values.Goals as goal

pub returns-clause-agrees : goal.returns-clause-agrees
returns-clause-agrees c = record {
  answer = refl;
  script = refl;
  reads = refl;
  writes = refl;
  findings = keeps_behind c.args.given.now.file.now c.args.explanation.findings.items c.in_ok-warnings.warnings.items c.append.new.self.items
      c.in_ok-append.ensures.items c.in_ok-warnings.ensures;
}

pub returns-clause-places : goal.returns-clause-places
returns-clause-places c =
    let P = IsFindingIn c.args.given.now.file.now in
    rw c.in_ok-append.ensures.items (All-append P c.args.explanation.findings.items c.in_ok-warnings.warnings.items c.requires.findings
    (placed_warnings c.args.given.now.file.now c.in_ok-warnings.warnings.items c.in_ok-warnings.ensures))
