use Rattle.sedck_commands.proofs.Common.{refl, ◌∙◌, sym}
use Rattle.sedck_commands.proofs.FlagLemmas.{flags_global, flags_print, flags_nth, none_of, flags_end, flags_file}
use Rattle.sedck_commands.proofs.FaultLemmas2.{begins_here}
use Rattle.sedck_commands.specs.FirstFaults as fault
use Rattle.sedck_commands.proofs.flags.read_flags.Goals as goal

pub returns-in-End-clause-read : goal.returns-in-End-clause-read
returns-in-End-clause-read c = flags_end c.loop-flag.invariant.1 (rw c.in-End.is at c.in_ok-flag.ensures.read)

pub returns-in-File-clause-read : goal.returns-in-File-clause-read
returns-in-File-clause-read c =
    let f = rw c.in-File.is at c.in_ok-flag.ensures.read in
    flags_file c.loop-flag.invariant.1 c.in-File.name.now f.1 f.2

pub loop-flag-preserved-else-seen : goal.loop-flag-preserved-else-seen
loop-flag-preserved-else-seen c = (
  c.in_ok-flag.ensures.same ∙ c.loop-flag.invariant.0,
  flags_global (rw c.if-seen.false at c.loop-flag.invariant.1) (rw c.in-Global.is at c.in_ok-flag.ensures.read),
  λ f x. c.loop-flag.invariant.2 _ (rw c.if-seen.false (fault.FlagsFault.global (rw c.in-Global.is at c.in_ok-flag.ensures.read) x)),
)

pub loop-flag-preserved-else-seen-2 : goal.loop-flag-preserved-else-seen-2
loop-flag-preserved-else-seen-2 c = (
  c.in_ok-flag.ensures.same ∙ c.loop-flag.invariant.0,
  flags_print (rw c.if-seen-2.false at c.loop-flag.invariant.1) (rw c.in-Print.is at c.in_ok-flag.ensures.read),
  λ f x. c.loop-flag.invariant.2 _ (rw c.if-seen-2.false (fault.FlagsFault.print (rw c.in-Print.is at c.in_ok-flag.ensures.read) x)),
)

pub loop-flag-preserved : goal.loop-flag-preserved
loop-flag-preserved c = (
  c.in_ok-flag.ensures.same ∙ c.loop-flag.invariant.0,
  flags_nth (rw (none_of _ (sym c.is_some.ensures ∙ c.if-is_some.false)) at c.loop-flag.invariant.1) (rw c.in-Nth.is at c.in_ok-flag.ensures.read),
  λ f x. c.loop-flag.invariant.2 _ (rw (sym c.is_some.ensures ∙ c.if-is_some.false) (fault.FlagsFault.number (rw c.in-Nth.is at c.in_ok-flag.ensures.read) x)),
)

pub returns-then-seen-clause-first : goal.returns-then-seen-clause-first
returns-then-seen-clause-first c = c.loop-flag.invariant.2 _ (rw c.if-seen.true (fault.FlagsFault.global_again
    (rw c.in-Global.is at c.in_ok-flag.ensures.read) (begins_here c.loop-flag.rest c.loop-flag.invariant.0 refl c.offset-place.ensures)))

pub returns-then-seen-2-clause-first : goal.returns-then-seen-2-clause-first
returns-then-seen-2-clause-first c = c.loop-flag.invariant.2 _ (rw c.if-seen-2.true (fault.FlagsFault.print_again
    (rw c.in-Print.is at c.in_ok-flag.ensures.read) (begins_here c.loop-flag.rest c.loop-flag.invariant.0 refl c.offset-place.ensures)))

pub returns-then-is_some-clause-first : goal.returns-then-is_some-clause-first
returns-then-is_some-clause-first c = c.loop-flag.invariant.2 _ (rw (sym c.is_some.ensures ∙ c.if-is_some.true) (fault.FlagsFault.number_again
    (rw c.in-Nth.is at c.in_ok-flag.ensures.read) (begins_here c.loop-flag.rest c.loop-flag.invariant.0 refl c.offset-place.ensures)))
