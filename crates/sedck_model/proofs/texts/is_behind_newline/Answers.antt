use Rattle.sedck_model.proofs.Common.{arith, ◌<◌, length, Decides-at, nat_tests, bytes_eq-Decides}
use Rattle.sedck_model.proofs.TextLemmas.{newline_first}
use Rattle.sedck_model.proofs.texts.is_behind_newline.Goals as goal

pub returns-then-text-eq10 : goal.returns-then-text-eq10
returns-then-text-eq10 c =
    let text = c.args.text.now in
    let some : 0 < length text = grind (arith, nat_tests) in
    newline_first text c.args.back.now c.eq.result some c.if-text-eq10.true
    (Decides-at _ _ c.eq.ensures (bytes_eq-Decides _ c.args.back.now))
