use Rattle.sedck_cert.proofs.Common.{refl}
use Rattle.sedck_cert.proofs.Written.{on_err, begins_first, begins_at, begins_third, written_fourth, begun_fourth}
use Rattle.sedck_cert.proofs.Pieces.{pieces_at}
use Rattle.sedck_cert.proofs.writing.write_cert.Goals as goal

pub returns-in_err-write_head-clause-begun : goal.returns-in_err-write_head-clause-begun
returns-in_err-write_head-clause-begun g c = on_err c.from_residual.result _
    (begins_first _ _ _ _ _ (pieces_at c.args.cert.now _ _ _ _ c.commands.ensures refl refl refl) c.in_err-write_head.ensures.begun)

pub returns-in_err-write_nodes-clause-begun : goal.returns-in_err-write_nodes-clause-begun
returns-in_err-write_nodes-clause-begun g c = on_err c.from_residual-in_err-write_nodes.result _
    (begins_at _ _ _ _ _ _ _
    (pieces_at c.args.cert.now _ _ _ _ c.commands.ensures c.ranks.ensures.ranks refl refl) c.in_ok-write_head.ensures.written
    c.in_err-write_nodes.ensures.begun)

pub returns-in_err-write_files-clause-begun : goal.returns-in_err-write_files-clause-begun
returns-in_err-write_files-clause-begun g c = on_err c.from_residual-in_err-write_files.result _
    (begins_third _ _ _ _ _ _ _ _ _
    (pieces_at c.args.cert.now _ _ _ _ c.commands.ensures c.ranks.ensures.ranks c.reads.ensures c.writes.ensures) c.in_ok-write_head.ensures.written
    c.in_ok-write_nodes.ensures.written c.in_err-write_files.ensures.begun)

pub returns-clause-written : goal.returns-clause-written
returns-clause-written g c = written_fourth c.write_line.result _ _ _ _ _ _ _ _ _ _
    (pieces_at c.args.cert.now _ _ _ _ c.commands.ensures c.ranks.ensures.ranks c.reads.ensures c.writes.ensures)
    c.in_ok-write_head.ensures.written c.in_ok-write_nodes.ensures.written c.in_ok-write_files.ensures.written c.write_line.ensures.written

pub returns-clause-begun : goal.returns-clause-begun
returns-clause-begun g c = begun_fourth c.write_line.result _ _ _ _ _ _ _ _ _ _
    (pieces_at c.args.cert.now _ _ _ _ c.commands.ensures c.ranks.ensures.ranks c.reads.ensures c.writes.ensures)
    c.in_ok-write_head.ensures.written c.in_ok-write_nodes.ensures.written c.in_ok-write_files.ensures.written c.write_line.ensures.begun
