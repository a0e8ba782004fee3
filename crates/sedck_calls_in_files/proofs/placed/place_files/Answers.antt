use Rattle.sedck_calls_in_files.proofs.Common.{◌∙◌, get_or, refl}
use Rattle.std.proofs.Math.Seq.{map-set_same}
use Rattle.sedck_report.specs.declared.finding.NamedFile.{NamedFile}
use Rattle.sedck_calls_in_files.proofs.placed.place_files.Goals as goal

pub loop-file-preserved : goal.loop-file-preserved
loop-file-preserved c =
    let before = get_or c.loop-file.file-items c.loop-file.file-index c.file-item.result in
    let placed : NamedFile = record { name = before.name; positions = c.place_all.new.positions } in (
      c.place_all.ensures ∙ c.loop-file.invariant.0,
      map-set_same (λ file. file.name.now) c.loop-file.file-items c.loop-file.file-index placed c.file-item.result refl ∙ c.loop-file.invariant.1,
    )
