use Rattle.sedck_search.proofs.Common.{◌≡◌, length, ap, ◌∙◌, arith, map, take-length}
use Rattle.std.specs.Prelude.{take}
use Rattle.sedck_search.proofs.searching.names.Goals as goal

pub returns : goal.returns
returns c =
    let all : c.loop-name.name-index ≡ length c.args.names.now = omega (arith, c.loop-name-test.false, c.loop-name.auto.name-index-end) in
    c.loop-name.invariant ∙ ap (map (λ name. name.now)) (ap (λ k. take k c.args.names.now) all ∙ take-length c.args.names.now)
