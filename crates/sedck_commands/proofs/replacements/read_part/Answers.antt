use Rattle.sedck_commands.proofs.Common.{unread_length, part_of, ReplacementFault}
use Rattle.sedck_commands.proofs.ResultLemmas.{if_err_from}
use Rattle.sedck_commands.proofs.ReplacementLemmas.{first_whole, first_run, first_escaped, first_pair}
use Rattle.sedck_commands.proofs.FaultLemmas1.{behind_whole, behind_run}
use Rattle.sedck_commands.proofs.replacements.read_part.Goals as goal

pub returns-then-b-eq38-clause-read : goal.returns-then-b-eq38-clause-read
returns-then-b-eq38-clause-read c = first_whole c.args.greatest (rw c.in-Byte.is at c.in_ok-piece.ensures.read) c.if-b-eq38.true

pub returns-else-b-eq38-clause-read : goal.returns-else-b-eq38-clause-read
returns-else-b-eq38-clause-read c = first_run c.args.greatest
    (rw c.in-Byte.is at c.in_ok-piece.ensures.read) c.if-b-eq38.false
    c.split.ensures.run

pub returns-in-Escaped-clause-read : goal.returns-in-Escaped-clause-read
returns-in-Escaped-clause-read c = rw c.unread.ensures (first_escaped c.args.greatest
    (rw c.in-Escaped.is at c.in_ok-piece.ensures.read))

pub returns-in-Some-clause-read : goal.returns-in-Some-clause-read
returns-in-Some-clause-read c =
    first_pair c.args.greatest (part_of c.in-Some.part) (rw c.in-Pair.is at c.in_ok-piece.ensures.read)
    c.in-Some.ensures.read.0 c.in-Some.ensures.read.1

pub returns-in_err-piece-clause-first : goal.returns-in_err-piece-clause-first
returns-in_err-piece-clause-first c =
    if_err_from _ c.from_residual.result _ c.from_residual.ensures.1 (ReplacementFault.piece c.in_err-piece.ensures.first)

pub returns-in_default-clause-first : goal.returns-in_default-clause-first
returns-in_default-clause-first c =
    let piece = rw c.in-Pair.is at c.in_ok-piece.ensures.read in
    ReplacementFault.meaningless piece.0 piece.1 c.in_default.ensures.none
    (rw c.offset.ensures (unread_length c.args.text))

pub returns-then-b-eq38-clause-next : goal.returns-then-b-eq38-clause-next
returns-then-b-eq38-clause-next c = λ fault. behind_whole (rw c.in-Byte.is at c.in_ok-piece.ensures.read) c.if-b-eq38.true

pub returns-else-b-eq38-clause-next : goal.returns-else-b-eq38-clause-next
returns-else-b-eq38-clause-next c = λ fault. behind_run (rw c.in-Byte.is at c.in_ok-piece.ensures.read) c.if-b-eq38.false c.split.ensures.run

pub returns-in-Escaped-clause-next : goal.returns-in-Escaped-clause-next
returns-in-Escaped-clause-next c = λ fault.
    let piece = rw c.in-Escaped.is at c.in_ok-piece.ensures.read in
    ReplacementFault.escaped piece.0 piece.1

pub returns-in-Some-clause-next : goal.returns-in-Some-clause-next
returns-in-Some-clause-next c = λ fault.
    let piece = rw c.in-Pair.is at c.in_ok-piece.ensures.read in
    ReplacementFault.part piece.0 piece.1 c.in-Some.ensures.read.0 c.in-Some.ensures.read.1
