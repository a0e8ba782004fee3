use Rattle.std.proofs.Common.{arith, sym}
use Rattle.sedck_cli.proofs.Ending.{refusal_status, broken_off, never_no, no_report, of_words, is_cause, is_usage, opened_by}
use Rattle.sedck_cli.proofs.command_line.program_over.Goals as goal

pub returns-in-Ok-Yes-clause-yes : goal.returns-in-Ok-Yes-clause-yes
returns-in-Ok-Yes-clause-yes g c is = (rw c.in-Ok-Yes.field-0-is at c.in-Ok-Yes.ensures).leaves.1

pub returns-in-Ok-Yes-clause-opened : goal.returns-in-Ok-Yes-clause-opened
returns-in-Ok-Yes-clause-opened g c is = c.in-Ok-Yes.ensures.leaves.0

pub returns-in-Ok-Yes-clause-option : goal.returns-in-Ok-Yes-clause-option
returns-in-Ok-Yes-clause-option g c has = let no = c.in-Ok-Yes.ensures.option has in cc

pub returns-in-Ok-Yes-clause-nothing : goal.returns-in-Ok-Yes-clause-nothing
returns-in-Ok-Yes-clause-nothing g c is = absurd (no_report (g.O.Opener.known c.args.files.now) _ _ _ _ is c.in-Ok-Yes.ensures.leaves.1)

pub returns-in-Ok-No-clause-no : goal.returns-in-Ok-No-clause-no
returns-in-Ok-No-clause-no g c is = (rw c.in-Ok-No.field-0-is at c.in-Ok-No.ensures).leaves.1

pub returns-in-Ok-No-clause-opened : goal.returns-in-Ok-No-clause-opened
returns-in-Ok-No-clause-opened g c is = c.in-Ok-No.ensures.leaves.0

pub returns-in-Ok-No-clause-never_no : goal.returns-in-Ok-No-clause-never_no
returns-in-Ok-No-clause-never_no g c is = never_no (g.O.Opener.known c.args.files.now) _ _ _ (rw c.in-Ok-No.field-0-is at c.in-Ok-No.ensures).leaves.1

pub returns-in-Ok-No-clause-option : goal.returns-in-Ok-No-clause-option
returns-in-Ok-No-clause-option g c has = let no = c.in-Ok-No.ensures.option has in cc

pub returns-in-Ok-No-clause-nothing : goal.returns-in-Ok-No-clause-nothing
returns-in-Ok-No-clause-nothing g c is = absurd (no_report (g.O.Opener.known c.args.files.now) _ _ _ _ is c.in-Ok-No.ensures.leaves.1)

pub returns-in-Err-clause-nothing : goal.returns-in-Err-clause-nothing
returns-in-Err-clause-nothing g c is = rw c.report.ensures.status (of_words (g.O.Opener.known c.args.files.now) _
    (record { before = g.W.Sink.taken c.args.out.now; after = g.W.Sink.taken c.run.new.out; failed = g.W.Sink.has_failed c.run.new.out })
    c.in-Err.refusal is c.in-Err.ensures.leaves)

pub returns-in-Err-clause-usage : goal.returns-in-Err-clause-usage
returns-in-Err-clause-usage g c is = c.in-Err.ensures.usage (is_usage c.in-Err.refusal (rw (sym c.report.ensures.status) is))

pub returns-in-Err-clause-yes : goal.returns-in-Err-clause-yes
returns-in-Err-clause-yes g c is = let above = refusal_status c.in-Err.refusal in absurd (omega (arith, c.report.ensures.status))

pub returns-in-Err-clause-no : goal.returns-in-Err-clause-no
returns-in-Err-clause-no g c is = let above = refusal_status c.in-Err.refusal in absurd (omega (arith, c.report.ensures.status))

pub returns-in-Err-clause-never_no : goal.returns-in-Err-clause-never_no
returns-in-Err-clause-never_no g c is = let above = refusal_status c.in-Err.refusal in absurd (omega (arith, c.report.ensures.status))

pub returns-in-Err-clause-opened : goal.returns-in-Err-clause-opened
returns-in-Err-clause-opened g c below = opened_by (g.O.Opener.known c.args.files.now) _
    (record { before = g.W.Sink.taken c.args.out.now; after = g.W.Sink.taken c.run.new.out; failed = g.W.Sink.has_failed c.run.new.out })
    c.in-Err.refusal c.in-Err.ensures.leaves (omega (arith, c.report.ensures.status))

pub returns-in-Err-clause-failed : goal.returns-in-Err-clause-failed
returns-in-Err-clause-failed g c is = broken_off (g.O.Opener.known c.args.files.now) _
    (record { before = g.W.Sink.taken c.args.out.now; after = g.W.Sink.taken c.run.new.out; failed = g.W.Sink.has_failed c.run.new.out })
    c.in-Err.refusal c.in-Err.ensures.leaves

pub returns-in-Err-clause-reported : goal.returns-in-Err-clause-reported
returns-in-Err-clause-reported g c above sound = (
  c.in-Err.refusal,
  sym c.report.ensures.status,
  is_cause (g.O.Opener.known c.args.files.now) _
      (record { before = g.W.Sink.taken c.args.out.now; after = g.W.Sink.taken c.run.new.out; failed = g.W.Sink.has_failed c.run.new.out })
      c.in-Err.refusal c.in-Err.ensures.leaves,
  c.report.ensures.line sound,
)

pub returns-in-Err-clause-cause : goal.returns-in-Err-clause-cause
returns-in-Err-clause-cause g c above = (
  c.in-Err.refusal,
  sym c.report.ensures.status,
  is_cause (g.O.Opener.known c.args.files.now) _
      (record { before = g.W.Sink.taken c.args.out.now; after = g.W.Sink.taken c.run.new.out; failed = g.W.Sink.has_failed c.run.new.out })
      c.in-Err.refusal c.in-Err.ensures.leaves,
)
