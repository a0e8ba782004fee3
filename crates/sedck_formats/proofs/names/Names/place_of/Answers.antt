use Rattle.std.proofs.Common.{◌≡◌, ◌∙◌, ◌+◌, ◌++◌, ◌∷◌, [], ◌<◌, suc, take, take-suc, length, refl, sym, ap, arith}
use Rattle.sedck_formats.specs.declared.names.PartName.{PartName}
use Rattle.sedck_formats.proofs.NameParts.{place_more, place_same}
use Rattle.sedck_formats.proofs.names.Names.place_of.Goals as goal
use Rattle.sedck_formats.proofs.names.Names.place_of.Goals.{then-part-line, else-part-line}

pub loop-part-preserved : goal.loop-part-preserved
loop-part-preserved c =
    let parts = c.args.self.parts.now in
    let index = c.loop-part.part-index in
    let part = c.part-item.result in
    let whole = c.args.self.whole.now in
    let below : index < length parts = omega (arith, c.loop-part-test.true, c.loop-part.auto.part-index-end) in
    let next : index + 1 ≡ suc index = omega (arith) in
    let taken : take (index + 1) parts ≡ take index parts ++ (part ∷ []) =
    ap (λ k. take k parts) next ∙ take-suc parts index part below ∙ ap (λ (x : PartName). take index parts ++ (x ∷ [])) (sym c.part-item.is) in
    elim c.if-part-line.branch [
      | then-part-line w ↦ rw (w.place-is, taken)
          (place_more whole (take index parts) part c.args.position _ w.if-part-line.true w.as_str.ensures.value (λ from_one. omega (arith, w.saturating_add.ensures, from_one, w.if-part-line.true)) refl)
      | else-part-line w ↦ rw (w.place-is, taken)
          (place_same whole (take index parts) part c.args.position _ w.if-part-line.false c.loop-part.invariant)
    ]
