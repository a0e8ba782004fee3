use Rattle.sedck_commands.proofs.Common.{[], ◌∙◌, unread, refl, none, one, two, place_of}
use Rattle.sedck_commands.proofs.ResultLemmas.{if_err_from}
use Rattle.sedck_commands.specs.FirstFaults as first
use Rattle.sedck_commands.proofs.AddressLemmas.{place_read, comma_tail, emptied_two}
use Rattle.sedck_commands.proofs.addresses.split_address.Goals as goal

pub returns-in_default-clause-read : goal.returns-in_default-clause-read
returns-in_default-clause-read c = none

pub empty_offset-empty-requires : goal.empty_offset-empty-requires
empty_offset-empty-requires c = place_read c.args.text c.in-Some.behind (rw c.in-Some.is at c.in_ok-from.ensures.same) ([], refl)
    (rw c.in-Some.is at c.in_ok-from.ensures.read)

pub empty_offset-requires : goal.empty_offset-requires
empty_offset-requires c =
    let second = rw c.in-Some-2.is at c.in_ok-to.ensures.read in
    place_read c.in-Some.behind c.in-Some-2.rest (rw c.in-Some-2.is at c.in_ok-to.ensures.same) (comma_tail second.1) second.2

pub returns-in_default-2-clause-read : goal.returns-in_default-2-clause-read
returns-in_default-2-clause-read c = one (rw c.in-Some.is at c.in_ok-from.ensures.read)

pub returns-clause-read : goal.returns-clause-read
returns-clause-read c = let s = rw c.in-Some-2.is at c.in_ok-to.ensures.read in two (rw c.in-Some.is at c.in_ok-from.ensures.read) s.1.before refl s.1.after s.2

pub returns-in_err-from-clause-first : goal.returns-in_err-from-clause-first
returns-in_err-from-clause-first c = if_err_from _ c.from_residual.result _ c.from_residual.ensures.1
    (λ memory. first.first (c.in_err-from.ensures.first memory))

pub returns-in_default-clause-all : goal.returns-in_default-clause-all
returns-in_default-clause-all c = first.none (rw c.in_default.is at c.in_ok-from.ensures.none)

pub returns-in_default-2-clause-all : goal.returns-in_default-2-clause-all
returns-in_default-2-clause-all c = first.one (rw c.in-Some.is at c.in_ok-from.ensures.read)
    (rw c.in_default-2.is at c.in_ok-to.ensures.none)

pub returns-clause-all : goal.returns-clause-all
returns-clause-all c = let s = rw c.in-Some-2.is at c.in_ok-to.ensures.read in first.two (rw c.in-Some.is at c.in_ok-from.ensures.read) s.1 s.2

pub returns-clause-empty : goal.returns-clause-empty
returns-clause-empty c =
    let first = rw c.in-Some.is at c.in_ok-from.ensures.same in
    let second = rw c.in-Some-2.is at c.in_ok-to.ensures.same in
    let read = rw c.in-Some.is at c.in_ok-from.ensures.read in
    let found = rw c.in-Some-2.is at c.in_ok-to.ensures.read in
    rw c.or-empty.ensures (emptied_two (place_of c.in-Some-2.to) _ c.empty_offset-empty.result c.empty_offset.result
    read (rw first at (c.empty_offset-empty.ensures (unread c.args.text) read))
    found.1 (rw (second ∙ first) at (c.empty_offset.ensures found.0 found.2)))
