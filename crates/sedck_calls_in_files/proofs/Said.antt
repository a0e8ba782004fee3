-- What is said of a call stays where answer, script and files do.
use Rattle.sedck_calls_in_files.proofs.Common.{◌∙◌, Explanation, Agrees}

pub agrees_on : (one two three : Explanation) → Agrees one two → Agrees two three → Agrees one three
agrees_on one two three first second = record {
  answer = second.answer ∙ first.answer;
  script = second.script ∙ first.script;
  reads = second.reads ∙ first.reads;
  writes = second.writes ∙ first.writes;
  findings = record {
    kept = λ is has. second.findings.kept is (first.findings.kept is has);
    errors = second.findings.errors ∙ first.findings.errors;
    locale = second.findings.locale ∙ first.findings.locale;
  };
}
