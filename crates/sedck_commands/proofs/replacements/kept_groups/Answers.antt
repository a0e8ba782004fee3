use Rattle.sedck_commands.proofs.Common.{sym, ◌∙◌, pattern_of}
use Rattle.sedck_commands.proofs.ReferenceLemmas.{coded_part, kept_more}
use Rattle.sedck_commands.proofs.replacements.kept_groups.Goals as goal

pub kept_with-requires : goal.kept_with-requires
kept_with-requires c = coded_part c.args.parts.now c.loop-part.part-index _ c.loop-part-test.true c.requires

pub returns-in_err-groups : goal.returns-in_err-groups
returns-in_err-groups c =
    c.from_residual.ensures
    ∙ sym (c.loop-part.invariant ∙ kept_more (pattern_of c.args.pattern.now) c.loop-part.groups c.args.parts.now c.loop-part.part-index _
    c.loop-part-test.true (sym c.in_err-groups.ensures))

pub loop-part-preserved : goal.loop-part-preserved
loop-part-preserved c =
    c.loop-part.invariant ∙ kept_more (pattern_of c.args.pattern.now) c.loop-part.groups c.args.parts.now c.loop-part.part-index _
    c.loop-part-test.true (sym c.in_ok-groups.ensures)
