use Rattle.sedck_cert.proofs.Written.{on_err, begins_first, begins_at, begins_third, begun_fourth}
use Rattle.sedck_cert.proofs.Pieces.{list_pieces}
use Rattle.sedck_cert.proofs.writing.write_names.Goals as goal

pub returns-in_err-write_all-clause-begun : goal.returns-in_err-write_all-clause-begun
returns-in_err-write_all-clause-begun g c = on_err c.from_residual.result _
    (begins_first _ _ _ _ _ (list_pieces g.N.AsSlice.items c.args.word.now c.args.names.now) c.in_err-write_all.ensures.begun)

pub returns-in_err-write_decimal-clause-begun : goal.returns-in_err-write_decimal-clause-begun
returns-in_err-write_decimal-clause-begun g c = on_err c.from_residual-in_err-write_decimal.result _
    (begins_at _ _ _ _ _ _ _ (list_pieces g.N.AsSlice.items c.args.word.now c.args.names.now) c.in_ok-write_all.ensures.written
    c.in_err-write_decimal.ensures.begun)

pub returns-in_err-write_all-2-clause-begun : goal.returns-in_err-write_all-2-clause-begun
returns-in_err-write_all-2-clause-begun g c = on_err c.from_residual-in_err-write_all-2.result _
    (begins_third _ _ _ _ _ _ _ _ _ (list_pieces g.N.AsSlice.items c.args.word.now c.args.names.now) c.in_ok-write_all.ensures.written
    c.in_ok-write_decimal.ensures.written c.in_err-write_all-2.ensures.begun)

pub returns-clause-begun : goal.returns-clause-begun
returns-clause-begun g c = begun_fourth c.write_lines.result _ _ _ _ _ _ _ _ _ _
    (list_pieces g.N.AsSlice.items c.args.word.now c.args.names.now) c.in_ok-write_all.ensures.written
    c.in_ok-write_decimal.ensures.written c.in_ok-write_all-2.ensures.written c.write_lines.ensures.begun
