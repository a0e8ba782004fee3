use Rattle.sedck_commands.proofs.Common.{◌≡◌, [], ◌∷◌, ◌++◌, ◌∙◌, refl, ap, sym, subst, Some, append_assoc, option_or, length, unread, DelimitedExpression, IsReadUpTo, as_written, CutFault}
use Rattle.sedck_commands.proofs.ResultLemmas.{if_err_from}
use Rattle.sedck_commands.proofs.PieceLemmas.{piece_more, expression_byte, expression_pair, expression_end, written_between}
use Rattle.sedck_commands.specs.Parts as p
use Rattle.sedck_commands.proofs.EscapeLemmas.{escape_more, escape_noted}
use Rattle.sedck_commands.proofs.FaultLemmas1.{piece_in_same}
use Rattle.sedck_commands.proofs.delimited.read_replaced.Goals as goal

pub returns-in-End-clause-read : goal.returns-in-End-clause-read
returns-in-End-clause-read c = expression_end c.loop-bytes.bytes.items c.loop-bytes.invariant.1 (rw c.in-End.is at c.in_ok-piece.ensures.read)

pub returns-in_err-piece-clause-first : goal.returns-in_err-piece-clause-first
returns-in_err-piece-clause-first c =
    if_err_from _ c.from_residual-in_err-piece.result _ c.from_residual-in_err-piece.ensures.1
    (λ memory. c.loop-bytes.invariant.3 _ (CutFault.piece (piece_in_same c.loop-bytes.invariant.0 c.in_err-piece.ensures.first)))

pub returns-then-b-eq10-clause-first : goal.returns-then-b-eq10-clause-first
returns-then-b-eq10-clause-first c = λ memory.
    let piece = rw c.in-Pair.is at c.in_ok-piece.ensures.read in
    c.loop-bytes.invariant.3 _ (CutFault.line (piece.0 ∙ ap (λ b. 92 ∷ b ∷ unread c.in_ok-piece.behind) c.if-b-eq10.true))

pub loop-bytes-preserved-in_ok-push-in-Byte : goal.loop-bytes-preserved-in_ok-push-in-Byte
loop-bytes-preserved-in_ok-push-in-Byte c =
    let piece = rw c.in-Byte.is at c.in_ok-piece.ensures.read in (
      c.in_ok-piece.ensures.same ∙ c.loop-bytes.invariant.0,
      piece_more (DelimitedExpression c.args.delimiter) c.loop-bytes.bytes.items (c.in-Byte.b ∷ []) _ c.in_ok-push-in-Byte.ensures.items
          c.loop-bytes.invariant.1 (expression_byte piece),
      escape_more (c.in-Byte.b ∷ []) _ c.in_ok-push-in-Byte.ensures.items piece.0 c.loop-bytes.invariant.2,
      λ fault wrong. c.loop-bytes.invariant.3 fault (CutFault.byte piece.0 piece.1 piece.2 piece.3 wrong),
    )

pub loop-bytes-preserved-in_ok-push-in-Escaped : goal.loop-bytes-preserved-in_ok-push-in-Escaped
loop-bytes-preserved-in_ok-push-in-Escaped c =
    let piece = rw c.in-Escaped.is at c.in_ok-piece.ensures.read in (
      c.in_ok-piece.ensures.same ∙ c.loop-bytes.invariant.0,
      piece_more (DelimitedExpression c.args.delimiter) c.loop-bytes.bytes.items (c.args.delimiter ∷ []) _ c.in_ok-push-in-Escaped.ensures.items
          c.loop-bytes.invariant.1 (λ more after x. rw piece.0 (p.escaped refl refl piece.1 x)),
      escape_noted c.loop-bytes.rest _ c.in_ok-push-in-Escaped.ensures.items piece.0
          (c.or-escape.ensures ∙ ap (λ n. option_or c.loop-bytes.escape (Some n)) c.offset-in-Escaped.ensures) c.loop-bytes.invariant.0 c.loop-bytes.invariant.2,
      λ fault wrong. c.loop-bytes.invariant.3 fault (CutFault.escaped piece.0 piece.1 wrong),
    )

pub loop-bytes-preserved : goal.loop-bytes-preserved
loop-bytes-preserved c =
    let piece = rw c.in-Pair.is at c.in_ok-piece.ensures.read in
    let items = c.in_ok-push-in-Pair-2.ensures.items ∙ ap (λ t. t ++ c.in-Pair.b ∷ []) c.in_ok-push-in-Pair.ensures.items
    ∙ append_assoc c.loop-bytes.bytes.items (92 ∷ []) (c.in-Pair.b ∷ []) in (
      c.in_ok-piece.ensures.same ∙ c.loop-bytes.invariant.0,
      piece_more (DelimitedExpression c.args.delimiter) c.loop-bytes.bytes.items (92 ∷ c.in-Pair.b ∷ []) _ items c.loop-bytes.invariant.1
          (expression_pair c.if-b-eq10.false piece),
      escape_more (92 ∷ c.in-Pair.b ∷ []) _ items piece.0 c.loop-bytes.invariant.2,
      λ fault wrong. c.loop-bytes.invariant.3 fault (CutFault.pair piece.0 piece.1 c.if-b-eq10.false wrong),
    )

pub loop-bytes-init : goal.loop-bytes-init
loop-bytes-init c =
    let text = unread c.args.text in
    let rest = unread c.args.behind_written in
    let between = written_between c.requires.written c.offset.ensures c.offset-2.ensures c.unread.ensures in
    let items : c.in_ok-bytes.bytes.items ≡ between.2.0 = c.in_ok-bytes.ensures.items ∙ between.2.2 in (
      c.requires.written.same,
      subst (λ t. IsReadUpTo (DelimitedExpression c.args.delimiter) text t rest) (sym items) between.2.3,
      as_written (between.2.1 ∙ ap (λ t. t ++ rest) (sym items)),
      c.requires.written.onward (length c.args.text.whole.now) c.args.opening,
    )
