use Rattle.sedck_commands.proofs.Common.{◌≡◌, arith}
use Rattle.sedck_commands.proofs.CommentLemmas.{no_inner_return}
use Rattle.sedck_commands.proofs.FaultLemmas2.{return_fault}
use Rattle.sedck_commands.proofs.texts.read_comment.Goals as goal
use Rattle.sedck_commands.proofs.texts.read_comment.Goals.{in-Some+else-at-line, in_default}

pub returns-clause-read : goal.returns-clause-read
returns-clause-read c = (
  c.split.result.0.now,
  (
    c.split.ensures.run,
    no_inner_return c.split.result.0.now c.memchr.result c.memchr.ensures (λ at is. elim c.match-memchr.branch [
      | in-Some+else-at-line w ↦ (let same : w.in-Some.at ≡ at = cc (w.in-Some.is, is) in omega (arith, same, w.if-at-line.false))
      | in_default w ↦ absurd (cc (w.in_default.is, is))
    ]),
  ),
)

pub returns-then-at-line-clause-first : goal.returns-then-at-line-clause-first
returns-then-at-line-clause-first c =
    return_fault c.args.text c.split.result.0.now _ c.in-Some.at c.split.ensures.run c.in-Some.ensures (omega (arith, c.if-at-line.true)) c.offset.ensures
