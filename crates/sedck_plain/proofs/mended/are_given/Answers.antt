use Rattle.std.proofs.Common.{◌∙◌, ◌-◌, drop, length, sym, subst, arith}
use Rattle.std.proofs.lemmas.Bool.Decides.{Decides-eqb}
use Rattle.std.proofs.lemmas.List.{drop_all, take_all, length-drop}
use Rattle.std.proofs.lemmas.Slice.Eq.{slice_eq-Decides}
use Rattle.sedck_plain.specs.Mended.{AreGiven}
use Rattle.sedck_plain.proofs.mended.are_given.Goals as goal

pub returns-in-Some-get : goal.returns-in-Some-get
returns-in-Some-get c = λ is.
    let script = c.args.script.now in
    let from = c.loop-location.from in
    let none = drop_all c.loop-location.location-index c.args.locations.now (omega (arith, c.loop-location-test.false)) in
    let same = (slice_eq-Decides Decides-eqb c.loop-location.rest.now c.in-Some-get.last.now c.eq.result c.eq.ensures).0 is in
    c.loop-location.invariant (subst (λ ls. AreGiven script from ls c.loop-location.rest.now) (sym none)
    (same ∙ (c.in-Some-get.ensures.lookup.0.2 ∙ take_all (length script - from) (drop from script) (omega (arith, length-drop from script)))))
