use Rattle.sedck_commands.proofs.Common.{ℕ, List, ◌∷◌, ◌<◌, arith, length, take, length-take, BracketsClose, FirstListFault}
use Rattle.sedck_commands.proofs.ResultLemmas.{if_err_from}
use Rattle.sedck_commands.proofs.BracketLemmas.{list_shorter, written_cut, open_shorter}
use Rattle.sedck_commands.proofs.FaultLemmas1.{bracket_fault}
use Rattle.sedck_commands.proofs.delimited.read_first_list.Goals as goal

pub overflow_sub-written : goal.overflow_sub-written
overflow_sub-written c =
    omega (arith, list_shorter c.args.text c.in_ok-bytes.rest c.in_ok-bytes.ensures.read c.in_ok-bytes.ensures.same, c.offset.ensures, c.offset-2.ensures)

pub slice_bounds-written-count : goal.slice_bounds-written-count
slice_bounds-written-count c =
    omega (arith, list_shorter c.args.text c.in_ok-bytes.rest c.in_ok-bytes.ensures.read c.in_ok-bytes.ensures.same, c.offset.ensures, c.offset-2.ensures)

-- the open bracket list is before the rest, from after the delimiter in front of it on
list_within : (n : ℕ) (text more : List ℕ) → BracketsClose (take n text) (91 ∷ more) → length more < n
list_within n text more closed = omega (arith, open_shorter closed, length-take n text)

pub overflow_sub-result : goal.overflow_sub-result
overflow_sub-result c = omega (arith, list_within _ _ _ c.in-Some.ensures.closed, c.offset.ensures, c.offset-in-Some.ensures)

pub overflow_sub-result-in-Some : goal.overflow_sub-result-in-Some
overflow_sub-result-in-Some c = omega (arith, list_within _ _ _ c.in-Some.ensures.closed, c.offset.ensures, c.offset-in-Some.ensures)

pub returns-in_err-bytes-clause-first : goal.returns-in_err-bytes-clause-first
returns-in_err-bytes-clause-first c =
    if_err_from _ c.from_residual.result _ c.from_residual.ensures.1 (λ memory. FirstListFault.list (c.in_err-bytes.ensures.first memory))

pub returns-in-Some-clause-first : goal.returns-in-Some-clause-first
returns-in-Some-clause-first c = λ memory. rw c.offset-in-Some.ensures
    (bracket_fault c.args.opening c.args.text c.in_ok-bytes.rest c.in_ok-bytes.ensures.read
    (written_cut c.args.text c.in_ok-bytes.rest c.in_ok-bytes.ensures.read c.in_ok-bytes.ensures.same
    c.offset.ensures c.offset-2.ensures c.unread.ensures)
    c.in-Some.ensures.closed c.in-Some.ensures.unclosed c.in_ok-bytes.ensures.same)

pub returns-clause-read : goal.returns-clause-read
returns-clause-read c = record {
  list = c.in_ok-bytes.ensures.read;
  alike = record {
    written = _;
    cut = (written_cut c.args.text c.in_ok-bytes.rest c.in_ok-bytes.ensures.read c.in_ok-bytes.ensures.same
        c.offset.ensures c.offset-2.ensures c.unread.ensures);
    closed = c.in_default.ensures.none;
  };
}
