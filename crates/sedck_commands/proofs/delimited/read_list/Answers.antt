use Rattle.sedck_commands.proofs.Common.{◌≡◌, [], ◌∙◌, ◌∷◌, ◌+◌, refl, ap, sym, length, unread, unread_length, DelimitedList, ListFault}
use Rattle.sedck_commands.proofs.ResultLemmas.{if_err_from}
use Rattle.sedck_commands.proofs.PieceLemmas.{piece_more, list_pair, list_end}
use Rattle.sedck_commands.specs.Parts as p
use Rattle.sedck_commands.proofs.FaultLemmas1.{piece_in_same, list_meant, list_meaningless}
use Rattle.sedck_commands.proofs.delimited.read_list.Goals as goal

pub returns-in-End-clause-read : goal.returns-in-End-clause-read
returns-in-End-clause-read c = list_end c.loop-bytes.bytes.items c.loop-bytes.invariant.1 (rw c.in-End.is at c.in_ok-piece.ensures.read)

pub loop-bytes-preserved-in_ok-push-in-Byte : goal.loop-bytes-preserved-in_ok-push-in-Byte
loop-bytes-preserved-in_ok-push-in-Byte c =
    let piece = rw c.in-Byte.is at c.in_ok-piece.ensures.read in (
      c.in_ok-piece.ensures.same ∙ c.loop-bytes.invariant.0,
      piece_more (DelimitedList c.args.delimiter) c.loop-bytes.bytes.items (c.in-Byte.b ∷ []) _ c.in_ok-push-in-Byte.ensures.items c.loop-bytes.invariant.1
          (λ more after x. rw piece.0 (p.byte piece.1 piece.2 piece.3 x)),
      λ fault wrong. c.loop-bytes.invariant.2 fault (ListFault.byte piece.0 piece.1 piece.2 piece.3 wrong),
    )

pub loop-bytes-preserved-in_ok-push-in-Escaped : goal.loop-bytes-preserved-in_ok-push-in-Escaped
loop-bytes-preserved-in_ok-push-in-Escaped c =
    let piece = rw c.in-Escaped.is at c.in_ok-piece.ensures.read in (
      c.in_ok-piece.ensures.same ∙ c.loop-bytes.invariant.0,
      piece_more (DelimitedList c.args.delimiter) c.loop-bytes.bytes.items (c.args.delimiter ∷ []) _ c.in_ok-push-in-Escaped.ensures.items
          c.loop-bytes.invariant.1 (λ more after x. rw piece.0 (p.escaped refl refl piece.1 x)),
      λ fault wrong. c.loop-bytes.invariant.2 fault (ListFault.escaped piece.0 piece.1 wrong),
    )

pub loop-bytes-preserved : goal.loop-bytes-preserved
loop-bytes-preserved c =
    let piece = rw c.in-Pair.is at c.in_ok-piece.ensures.read in (
      c.in_ok-piece.ensures.same ∙ c.loop-bytes.invariant.0,
      piece_more (DelimitedList c.args.delimiter) c.loop-bytes.bytes.items (c.in-Some.meant ∷ []) _ c.in_ok-push-in-Pair.ensures.items
          c.loop-bytes.invariant.1 (list_pair (sym c.in-Some.ensures) piece),
      λ fault wrong. c.loop-bytes.invariant.2 fault (ListFault.meant piece.0 piece.1 (list_meant c.in-Pair.b _ (sym c.in-Some.ensures)) wrong),
    )

pub returns-in_err-piece-clause-first : goal.returns-in_err-piece-clause-first
returns-in_err-piece-clause-first c =
    if_err_from _ c.from_residual.result _ c.from_residual.ensures.1
    (λ memory. c.loop-bytes.invariant.2 _ (ListFault.piece (piece_in_same c.loop-bytes.invariant.0 c.in_err-piece.ensures.first)))

pub returns-then-b-eq10-clause-first : goal.returns-then-b-eq10-clause-first
returns-then-b-eq10-clause-first c = λ memory.
    let piece = rw c.in-Pair.is at c.in_ok-piece.ensures.read in
    c.loop-bytes.invariant.2 _ (ListFault.line (piece.0 ∙ ap (λ b. 92 ∷ b ∷ unread c.in_ok-piece.behind) c.if-b-eq10.true))

pub returns-in_default-clause-first : goal.returns-in_default-clause-first
returns-in_default-clause-first c = λ memory.
    let piece = rw c.in-Pair.is at c.in_ok-piece.ensures.read in
    let none = list_meaningless c.in-Pair.b (cc (c.list_escape.ensures, c.in_default.is)) in
    let place : c.offset.result + length (unread c.loop-bytes.rest) ≡ length c.args.text.whole.now =
    rw c.offset.ensures (unread_length c.loop-bytes.rest ∙ ap (λ w. length w.now) c.loop-bytes.invariant.0) in
    c.loop-bytes.invariant.2 _ (ListFault.meaningless piece.0 piece.1 c.if-b-eq10.false none.0 none.1 place)
