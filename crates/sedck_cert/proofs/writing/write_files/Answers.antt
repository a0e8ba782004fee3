use Rattle.sedck_cert.proofs.Common.{map}
use Rattle.sedck_cert.proofs.Written.{on_err, begins_first, begun_last}
use Rattle.sedck_cert.proofs.Pieces.{files_pieces}
use Rattle.sedck_cert.proofs.writing.write_files.Goals as goal

pub returns-in_err-write_names-clause-begun : goal.returns-in_err-write_names-clause-begun
returns-in_err-write_names-clause-begun g c = on_err c.from_residual.result _
    (begins_first _ _ _ _ _ (files_pieces (map g.N.AsSlice.items c.args.reads.now) (map g.N.AsSlice.items c.args.writes.now))
    c.in_err-write_names.ensures.begun)

pub returns-clause-begun : goal.returns-clause-begun
returns-clause-begun g c = begun_last c.write_names-2.result _ _ _ _ _ _
    (files_pieces (map g.N.AsSlice.items c.args.reads.now) (map g.N.AsSlice.items c.args.writes.now))
    c.in_ok-write_names.ensures.written c.write_names-2.ensures.begun
