use Rattle.sedck_explain_cli.proofs.Common.{◌∙◌, sym, arith}
use Rattle.sedck_explain_cli.proofs.Readings.{named_plain, named_comma}
use Rattle.sedck_explain_cli.proofs.reading.names.Goals.{then-list-at-eq44+else-eq, else-list-at-eq44}
use Rattle.sedck_explain_cli.proofs.reading.names.Goals as goal

pub loop-at-preserved : goal.loop-at-preserved
loop-at-preserved c =
    let list = c.args.list.now in
    let at = c.loop-at.at in
    let before = c.loop-at.invariant in
    elim c.if-list-at-eq44.branch [
      | then-list-at-eq44+else-eq w ↦ rw w.start-is (record {
        within = omega arith;
        rest = named_comma list c.args.name.now c.loop-at.start at c.loop-at-test.true w.if-list-at-eq44.true
            (sym w.eq.ensures ∙ w.if-eq.false) ∙ before.rest;
      })
      | else-list-at-eq44 w ↦ rw w.start-is (record {
        within = omega (arith, before.within);
        rest = named_plain list c.args.name.now c.loop-at.start at before.within c.loop-at-test.true w.if-list-at-eq44.false ∙ before.rest;
      })
    ]
