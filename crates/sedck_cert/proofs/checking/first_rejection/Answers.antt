use Rattle.sedck_cert.proofs.Common.{arith, refl, common_steps}
use Rattle.sedck_cert.proofs.CheckingLemmas.{is_ranked, edge_rejection}
use Rattle.sedck_cert.proofs.checking.first_rejection.Goals as goal

-- an edge isn't met
pub returns-in-Some : goal.returns-in-Some
returns-in-Some c = edge_rejection c.args.script.now c.args.cert.now c.in-Some.why
    (record { count = grind (arith, common_steps); start_ranked = c.if-not-are_starts_ranked.ensures }) c.in-Some.ensures

pub returns-then-not-lists_reads : goal.returns-then-not-lists_reads
returns-then-not-lists_reads c = (
  grind (arith, common_steps),
  is_ranked c.args.script.now c.args.cert.now c.if-not-are_starts_ranked.ensures c.in_default.ensures,
  λ lists. let no = c.if-not-lists_reads.true in let yes = c.if-not-lists_reads.ensures.1 lists in cc,
)

pub returns-then-not-lists_writes : goal.returns-then-not-lists_writes
returns-then-not-lists_writes c = (
  grind (arith, common_steps),
  is_ranked c.args.script.now c.args.cert.now c.if-not-are_starts_ranked.ensures c.in_default.ensures,
  c.if-not-lists_reads.ensures.0 refl,
  λ lists. let no = c.if-not-lists_writes.true in let yes = c.if-not-lists_writes.ensures.1 lists in cc,
)

pub returns : goal.returns
returns c = record {
  count = grind (arith, common_steps);
  ranked = is_ranked c.args.script.now c.args.cert.now c.if-not-are_starts_ranked.ensures c.in_default.ensures;
  reads = c.if-not-lists_reads.ensures.0 refl;
  writes = c.if-not-lists_writes.ensures.0 refl;
}
