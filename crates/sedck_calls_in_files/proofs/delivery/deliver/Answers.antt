use Rattle.sedck_calls_in_files.proofs.Common.{◌≡◌, IfSome, sym, subst, Output, IsPlainReport}
use Rattle.std.proofs.KnownBytes.{Keeps-refl}
use Rattle.sedck_calls_in_files.proofs.Delivered.{as_report, as_script}
use Rattle.sedck_calls_in_files.proofs.delivery.deliver.Goals as goal

pub returns-in_default-clause-delivered : goal.returns-in_default-clause-delivered
returns-in_default-clause-delivered g c =
    let named = c.args.named.now in
    let e = c.args.explanation.now in
    let known = g.F.Reporter.reported named.reporter.now named.name.now e in
    let out : Output = record { before = g.W.Sink.taken c.args.out.now; after = g.W.Sink.taken c.written.new.out } in
    let err : Output = record { before = g.E.Sink.taken c.args.err.now; after = g.E.Sink.taken c.args.err.now } in
    as_report named.plain known e c.deref.result.now out err c.written.result c.in_default.is
    (subst (λ report. IfSome known (λ bytes. report ≡ bytes)) (sym c.deref.ensures.value) c.in_ok-report.ensures)
    c.written.ensures.status c.written.ensures.whole (Keeps-refl _)

pub returns-in-Accepted-clause-delivered : goal.returns-in-Accepted-clause-delivered
returns-in-Accepted-clause-delivered g c =
    let named = c.args.named.now in
    let e = c.args.explanation.now in
    let known = g.F.Reporter.reported named.reporter.now named.name.now e in
    let out : Output = record { before = g.W.Sink.taken c.args.out.now; after = g.W.Sink.taken c.written-in-Accepted.new.out } in
    let err : Output = record { before = g.E.Sink.taken c.args.err.now; after = g.E.Sink.taken c.args.err.now } in
    as_script named.plain c.in-Some.comments known e c.deref-in-Accepted.result.now c.in_ok-text.status out err c.written-in-Accepted.result c.in-Some.is c.in-Accepted.is
    (subst (λ text. IsPlainReport e text c.in_ok-text.status) (sym c.deref-in-Accepted.ensures.value) c.in_ok-text.ensures)
    c.written-in-Accepted.ensures.status c.written-in-Accepted.ensures.whole (Keeps-refl _)
