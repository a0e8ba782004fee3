use Rattle.std.proofs.Common.{refl}
use Rattle.sedck_calls_in_files.proofs.Findings.{keeps_kinds}
use Rattle.sedck_calls_in_files.proofs.placed.placed.Goals as goal

pub returns-clause-agrees : goal.returns-clause-agrees
returns-clause-agrees c = record {
  answer = refl;
  script = refl;
  reads = c.place_files.ensures.names;
  writes = c.place_files-2.ensures.names;
  findings = keeps_kinds c.args.explanation.findings.items c.place_findings.new.findings.items c.place_findings.ensures.kinds;
}
