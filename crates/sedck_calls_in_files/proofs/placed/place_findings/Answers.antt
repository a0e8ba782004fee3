use Rattle.sedck_calls_in_files.proofs.Common.{◌≡◌, ◌∙◌, get_or, subst, arith, IsFindingIn}
use Rattle.std.proofs.Math.Seq.{map-set_same}
use Rattle.sedck_calls_in_files.specs.Private.Kinds.{kind_of}
use Rattle.sedck_calls_in_files.proofs.Lists.{all_more_set}
use Rattle.sedck_calls_in_files.proofs.placed.place_findings.Goals as goal

pub loop-finding-preserved : goal.loop-finding-preserved
loop-finding-preserved c =
    let before = get_or c.loop-finding.finding-items c.loop-finding.finding-index c.finding-item.result in
    let after = c.place_finding.new.finding in
    let same : kind_of after ≡ kind_of before = cc (c.place_finding.ensures.level, c.place_finding.ensures.code) in (
      c.place_finding.ensures.file ∙ c.loop-finding.invariant.0,
      all_more_set (IsFindingIn c.args.places.now.file.now) c.loop-finding.finding-items c.loop-finding.finding-index _ (omega (arith, c.loop-finding-test.true))
          c.loop-finding.invariant.1 (subst (λ file. IsFindingIn file.now c.place_finding.new.finding) c.loop-finding.invariant.0 c.place_finding.ensures.finding),
      map-set_same kind_of c.loop-finding.finding-items c.loop-finding.finding-index after c.finding-item.result same ∙ c.loop-finding.invariant.2,
    )
