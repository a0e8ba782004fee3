use Rattle.sedck_commands.proofs.Common.{◌<◌, ◌≤◌, ◌^◌, ◌-◌, [], length, map, refl, ◌∙◌, sym, subst, arith, literal_length, unread, unread_length, part_of, IsPart, All-from_recursion, IsOfText, SubstitutionFault}
use Rattle.sedck_commands.proofs.OffsetLemmas.{tail_length, tail_behind, expression_tail}
use Rattle.sedck_commands.proofs.ResultLemmas.{if_err_from, if_err_same}
use Rattle.sedck_commands.proofs.VerbLemmas.{substitute_read}
use Rattle.sedck_commands.proofs.ReplacementParts.{replacement_parts, replacement_size}
use Rattle.sedck_commands.specs.FirstFaults as fault
use Rattle.sedck_commands.proofs.substitutions.read_substitution.Goals as goal

pub outside_of-outside-requires : goal.outside_of-outside-requires
outside_of-outside-requires c =
    rw (← c.deref.ensures.value) at (All-from_recursion IsPart (map part_of c.in_ok-parts.parts.items) (replacement_parts c.in_ok-parts.ensures.read))

pub returns-clause-read : goal.returns-clause-read
returns-clause-read c =
    substitute_read c.in_ok-delimiter.ensures.read.0 c.in_ok-delimiter.ensures.read.1 c.in_ok-pattern.ensures.read c.in_ok-parts.ensures.read
    (λ k i. subst (λ m. k ≤ m) c.greatest_group-greatest.ensures (c.in_ok-parts.ensures.groups k i)) (c.in_ok-seen.ensures.read _ _)

pub literal_length-literal-requires : goal.literal_length-literal-requires
literal_length-literal-requires c =
    let opened = tail_length (tail_behind {text = (unread c.args.text)} ([], refl) c.in_ok-delimiter.ensures.read.0) in
    let behind = tail_length (expression_tail c.in_ok-pattern.ensures.read.1.cut) in
    let small = replacement_size c.in_ok-parts.ensures.read in
    subst (λ parts. literal_length (map part_of parts) < 2 ^ 64) (sym c.deref-2.ensures.value) (omega (arith, opened, behind, small, unread_length c.args.text, c.ranges.text.0))

pub returns-in_err-delimiter-clause-first : goal.returns-in_err-delimiter-clause-first
returns-in_err-delimiter-clause-first c = if_err_from _ c.from_residual.result _ c.from_residual.ensures.1
    (λ memory. let h = rw c.offset-opening.ensures at c.in_err-delimiter.ensures.first in rw h.1 (fault.SubstitutionFault.undelimited h.0))

pub returns-in_err-pattern-clause-first : goal.returns-in_err-pattern-clause-first
returns-in_err-pattern-clause-first c =
    if_err_same (λ whole f. IsOfText f → SubstitutionFault (length whole) (c.args.text.at - 1) (unread c.args.text) f)
    c.from_residual-in_err-pattern.result _ c.from_residual-in_err-pattern.ensures.1 c.in_ok-delimiter.ensures.same
    (λ memory. fault.SubstitutionFault.pattern c.in_ok-delimiter.ensures.read.0 c.in_ok-delimiter.ensures.read.1
    (rw c.offset-opening.ensures at (c.in_err-pattern.ensures.first memory)))

pub returns-in_err-parts-clause-first : goal.returns-in_err-parts-clause-first
returns-in_err-parts-clause-first c =
    if_err_same (λ whole f. IsOfText f → SubstitutionFault (length whole) (c.args.text.at - 1) (unread c.args.text) f)
    c.from_residual-in_err-parts.result _ c.from_residual-in_err-parts.ensures.1 (c.in_ok-pattern.ensures.same ∙ c.in_ok-delimiter.ensures.same)
    (λ memory. fault.SubstitutionFault.replacement c.in_ok-delimiter.ensures.read.0 c.in_ok-delimiter.ensures.read.1
    c.in_ok-pattern.ensures.read.1 c.in_ok-pattern.ensures.read.2
    (rw (c.offset-opening.ensures, c.greatest_group-greatest.ensures) at (c.in_err-parts.ensures.first memory)))

pub returns-in_err-seen-clause-first : goal.returns-in_err-seen-clause-first
returns-in_err-seen-clause-first c =
    if_err_same (λ whole f. IsOfText f → SubstitutionFault (length whole) (c.args.text.at - 1) (unread c.args.text) f)
    c.from_residual-in_err-seen.result _ c.from_residual-in_err-seen.ensures.1
    (c.in_ok-parts.ensures.same ∙ c.in_ok-pattern.ensures.same ∙ c.in_ok-delimiter.ensures.same)
    (λ memory. fault.SubstitutionFault.flags c.in_ok-delimiter.ensures.read.0 c.in_ok-delimiter.ensures.read.1
    c.in_ok-pattern.ensures.read.1 c.in_ok-pattern.ensures.read.2 c.in_ok-parts.ensures.read
    (λ k i. subst (λ m. k ≤ m) c.greatest_group-greatest.ensures (c.in_ok-parts.ensures.groups k i)) c.in_err-seen.ensures.first)
