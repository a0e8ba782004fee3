use Rattle.sedck_commands.proofs.Common.{unread, unread_length, length, sym, IsOfText, PlaceFault}
use Rattle.sedck_commands.proofs.ResultLemmas.{if_err_along}
use Rattle.sedck_commands.specs.FirstFaults as first
use Rattle.sedck_commands.proofs.addresses.split_second.Goals as goal

pub returns-in_err-found-clause-first : goal.returns-in_err-found-clause-first
returns-in_err-found-clause-first c = if_err_along (λ w fault. IsOfText fault → PlaceFault (length w) (unread c.in-Some.second) fault) _
    c.from_residual.result _ c.from_residual.ensures.1 c.in-Some.ensures.same
    (λ h memory begins place read. first.second read c.in-Some.ensures.some (h memory)) c.in_err-found.ensures.first

pub returns-in_default-2-clause-first : goal.returns-in_default-2-clause-first
returns-in_default-2-clause-first c = λ memory begins place read. first.missing read c.in-Some.ensures.some
    (rw c.in_default-2.is at c.in_ok-found.ensures.none) (rw (c.offset.ensures, sym c.in-Some.ensures.same) (unread_length c.in-Some.second))
