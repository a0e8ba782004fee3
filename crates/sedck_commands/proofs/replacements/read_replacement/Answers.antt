use Rattle.sedck_commands.proofs.Common.{◌∙◌, ap, sym, map, map_push, part_of}
use Rattle.sedck_commands.proofs.ReplacementLemmas.{parts_more, parts_end}
use Rattle.sedck_commands.proofs.FaultLemmas1.{replacement_in_same}
use Rattle.sedck_commands.proofs.replacements.read_replacement.Goals as goal

pub returns-in_default-clause-read : goal.returns-in_default-clause-read
returns-in_default-clause-read c =
    parts_end c.loop-parts.invariant.1 (rw c.in_default.is at c.in_ok-part.ensures.read)

pub loop-parts-preserved : goal.loop-parts-preserved
loop-parts-preserved c = (
  c.in_ok-part.ensures.same ∙ c.loop-parts.invariant.0,
  parts_more _ (ap (map part_of) c.in_ok-push.ensures.items ∙ map_push part_of c.loop-parts.parts.items _) c.loop-parts.invariant.1
      (rw c.in-Some.is at c.in_ok-part.ensures.read),
  λ fault wrong.
      let next = rw c.in-Some.is at c.in_ok-part.ensures.next in
      c.loop-parts.invariant.2 fault (replacement_in_same c.loop-parts.invariant.0 (next fault (replacement_in_same (sym c.loop-parts.invariant.0) wrong))),
)
