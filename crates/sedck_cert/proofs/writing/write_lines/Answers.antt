use Rattle.sedck_cert.proofs.Common.{sym, subst, ◌∙◌, Appends, line, AppendsPrefix}
use Rattle.sedck_cert.proofs.Written.{on_err, begins_at, appends_join}
use Rattle.sedck_cert.proofs.Pieces.{joined_lines-at, joined_lines-more}
use Rattle.sedck_cert.proofs.writing.write_lines.Goals as goal

pub returns-in_err-write_line-clause-begun : goal.returns-in_err-write_line-clause-begun
returns-in_err-write_line-clause-begun g c = on_err c.from_residual.result _
    (begins_at _ _ _ _ _ _ _
    (joined_lines-at g.N.AsSlice.items c.args.names.now c.loop-name.name-index c.name-item.result c.loop-name-test.true c.name-item.is) c.loop-name.invariant.0
    (subst (λ t. AppendsPrefix (g.W.Sink.taken c.loop-name.out) (g.W.Sink.taken c.write_line.new.out)
    (line t)) c.as_slice.ensures c.in_err-write_line.ensures.begun))

pub loop-name-preserved : goal.loop-name-preserved
loop-name-preserved g c = (
  subst (Appends (g.W.Sink.taken c.args.out.now) (g.W.Sink.taken c.write_line.new.out))
      (sym (joined_lines-more g.N.AsSlice.items c.args.names.now c.loop-name.name-index c.name-item.result c.loop-name-test.true c.name-item.is))
      (appends_join _ _ _ _ _ c.loop-name.invariant.0 (subst
      (λ t. Appends (g.W.Sink.taken c.loop-name.out) (g.W.Sink.taken c.write_line.new.out) (line t)) c.as_slice.ensures c.in_ok-write_line.ensures.written)),
  c.in_ok-write_line.ensures.failure ∙ c.loop-name.invariant.1,
)
