use Rattle.std.proofs.Common.{[], ◌∷◌, ◌∙◌, ap, is_some}
use Rattle.sedck_cli.proofs.ExactAnswers.{Ran, words_check, words_plain, exact, promised, promised_everywhere, said_line, memory}
use Rattle.sedck_cli.specs.Private.Requests.{two_files}
use Rattle.sedck_cli.proofs.in_memory.check_in_memory.Goals as goal
use Rattle.sedck_cli.proofs.in_memory.check_in_memory.Goals.{After-array_drop-words-2}

-- what is known of the run on both texts
ran : (c : After-array_drop-words-2) → Ran c.args.script.now c.args.certificate.now (c.in_ok-from_str.field-0 ∷ c.in_ok-from_str-2.field-0 ∷ c.in_ok-from_str-3.field-0 ∷ [])
    c.program_over-status.result
ran c = record {
  within = c.program_over-status.ensures.within;
  is_check = words_check c.in_ok-from_str.field-0 c.in_ok-from_str-2.field-0 c.in_ok-from_str-3.field-0 c.in_ok-from_str.ensures.ok
      c.in_ok-from_str-2.ensures.ok c.in_ok-from_str-3.ensures.ok;
  is_plain = words_plain c.in_ok-from_str.field-0 c.in_ok-from_str-2.field-0 c.in_ok-from_str-3.field-0 c.in_ok-from_str.ensures.ok
      c.in_ok-from_str-2.ensures.ok c.in_ok-from_str-3.ensures.ok;
  yes = λ is. let report = c.program_over-status.ensures.yes is in (report.0, report.1);
  negative = λ is. let report = c.program_over-status.ensures.no is in (report.0, report.1);
  usage = c.program_over-status.ensures.usage;
  cause = λ above. let why = c.program_over-status.ensures.cause above in (is_some c.program_over-status.new.out.refused, why.0, why.1, why.2);
}

pub returns-clause-exact : goal.returns-clause-exact
returns-clause-exact c = exact (ran c)

pub returns-clause-promise : goal.returns-clause-promise
returns-clause-promise c = promised (ran c)

pub returns-clause-everywhere : goal.returns-clause-everywhere
returns-clause-everywhere c = promised_everywhere (ran c)

pub returns-clause-memory : goal.returns-clause-memory
returns-clause-memory c =
    let ran = c.program_over-status in
    let same = ap (λ bytes. bytes.items) c.in_ok-into_bytes-2.ensures.0 in
    memory {words = (c.in_ok-from_str.field-0 ∷ c.in_ok-from_str-2.field-0 ∷ c.in_ok-from_str-3.field-0 ∷ [])} (record {
      is_check = words_check c.in_ok-from_str.field-0 c.in_ok-from_str-2.field-0 c.in_ok-from_str-3.field-0 c.in_ok-from_str.ensures.ok
          c.in_ok-from_str-2.ensures.ok c.in_ok-from_str-3.ensures.ok;
      said = λ above. said_line (two_files c.args.script.now c.args.certificate.now) _ (is_some ran.new.out.refused) ran.result
          c.new-err.result.bytes.items ran.new.err.bytes.items c.in_ok-into_bytes-2.field-0.items (ap is_some c.in_ok-into_bytes.ensures.1)
          c.new-err.ensures.0 same (ran.ensures.reported above (ap is_some c.in_ok-into_bytes-2.ensures.1));
      silent = λ below. same ∙ ran.ensures.silent below ∙ c.new-err.ensures.0;
    })
