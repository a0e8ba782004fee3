use Rattle.sedck_commands.proofs.Common.{sym, ◌∙◌, unread, unread_length, PieceFault}
use Rattle.sedck_commands.proofs.delimited.read_piece.Goals as goal

pub returns-in_default-clause-first : goal.returns-in_default-clause-first
returns-in_default-clause-first c = PieceFault.over c.in_default.ensures.cut

pub returns-then-first-eq10-clause-first : goal.returns-then-first-eq10-clause-first
returns-then-first-eq10-clause-first c = PieceFault.line {behind = unread c.in-Some.behind} (cc (c.in-Some.ensures.cut, c.if-first-eq10.true))

pub returns-in_default-split_first-clause-first : goal.returns-in_default-split_first-clause-first
returns-in_default-split_first-clause-first c =
    PieceFault.last (cc (c.in-Some.ensures.cut, c.in_default-split_first.ensures.cut, c.if-first-ne92.false))

pub returns-then-not-can_be_escaped-clause-first : goal.returns-then-not-can_be_escaped-clause-first
returns-then-not-can_be_escaped-clause-first c = PieceFault.forbidden {behind = unread c.in-Some-split_first.after}
    (cc (c.in-Some.ensures.cut, c.in-Some-split_first.ensures.cut, c.if-first-ne92.false, c.if-next-delimiter.false))
    (sym c.can_be_escaped.ensures ∙ c.if-not-can_be_escaped.true) (rw c.offset.ensures (unread_length c.args.text))
