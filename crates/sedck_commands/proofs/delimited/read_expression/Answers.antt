use Rattle.sedck_commands.proofs.Common.{◌≡◌, [], ◌∷◌, ◌++◌, ◌∙◌, ap, sym, unread, as_written, CutFault}
use Rattle.sedck_commands.proofs.ResultLemmas.{if_err_from}
use Rattle.sedck_commands.proofs.PieceLemmas.{expression_byte, expression_pair, expression_end, written_more, written_between}
use Rattle.sedck_commands.proofs.FaultLemmas1.{piece_in_same}
use Rattle.sedck_commands.proofs.delimited.read_expression.Goals as goal

pub returns-in_err-piece-clause-first : goal.returns-in_err-piece-clause-first
returns-in_err-piece-clause-first c =
    if_err_from _ c.from_residual.result _ c.from_residual.ensures.1
    (λ memory. c.pieces.invariant.onward _ _ _ (CutFault.piece (piece_in_same c.pieces.invariant.same c.in_err-piece.ensures.first)))

pub returns-then-b-eq10-clause-first : goal.returns-then-b-eq10-clause-first
returns-then-b-eq10-clause-first c = λ memory.
    let piece = rw c.in-Pair.is at c.in_ok-piece.ensures.read in
    c.pieces.invariant.onward _ _ _ (CutFault.line (piece.0 ∙ ap (λ b. 92 ∷ b ∷ unread c.in_ok-piece.behind) c.if-b-eq10.true))

pub pieces-preserved-in-Byte : goal.pieces-preserved-in-Byte
pieces-preserved-in-Byte c =
    let piece = rw c.in-Byte.is at c.in_ok-piece.ensures.read in
    written_more (c.in-Byte.field-0 ∷ []) c.in_ok-piece.ensures.same piece.0 (expression_byte piece)
    (λ size opening fault wrong. CutFault.byte piece.0 piece.1 piece.2 piece.3 wrong) c.pieces.invariant

pub pieces-preserved : goal.pieces-preserved
pieces-preserved c =
    let piece = rw c.in-Pair.is at c.in_ok-piece.ensures.read in
    written_more (92 ∷ c.in-Pair.b ∷ []) c.in_ok-piece.ensures.same piece.0 (expression_pair c.if-b-eq10.false piece)
    (λ size opening fault wrong. CutFault.pair piece.0 piece.1 c.if-b-eq10.false wrong) c.pieces.invariant

pub returns-in-End-clause-read : goal.returns-in-End-clause-read
returns-in-End-clause-read c =
    let between = written_between c.pieces.invariant c.offset.ensures c.offset-in-End.ensures c.unread.ensures in
    rw (← between.2.2) at (expression_end between.2.0 between.2.3 (rw c.in-End.is at c.in_ok-piece.ensures.read))

pub returns-in-End-clause-escape : goal.returns-in-End-clause-escape
returns-in-End-clause-escape c =
    let between = written_between c.pieces.invariant c.offset.ensures c.offset-in-End.ensures c.unread.ensures in
    let end : unread c.pieces.rest ≡ c.args.delimiter ∷ unread c.in_ok-piece.behind =
    rw c.in-End.is at c.in_ok-piece.ensures.read in
    as_written (between.2.1 ∙ ap (λ t. between.2.0 ++ t) end ∙ ap (λ t. t ++ c.args.delimiter ∷ unread c.in_ok-piece.behind) (sym between.2.2))
