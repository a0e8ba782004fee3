use Rattle.sedck_advice.proofs.Common.{◌∙◌, ap}
use Rattle.std.proofs.Math.Seq.{map-set_same}
use Rattle.sedck_advice.proofs.names.named_files.Goals as goal

pub loop-command-preserved-in-Continue-branch-2 : goal.loop-command-preserved-in-Continue-branch-2
loop-command-preserved-in-Continue-branch-2 c =
    map-set_same (λ file. file.name.now) c.loop-command.files.items c.in-Ok.index _ c.index_mut.result.now
    (ap (λ file. file.name.now) c.index_mut.ensures.value) ∙ c.loop-command.invariant
