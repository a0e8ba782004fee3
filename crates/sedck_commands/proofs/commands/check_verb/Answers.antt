use Rattle.sedck_commands.proofs.Common.{◌≡◌, ◌∷◌, ap, sym, ◌∙◌, arith, not, subst, is_in, verb_bytes, IsEmptyOr, unread, unread_length, both_ways, eqb-true, eq-eqb}
use Rattle.sedck_commands.proofs.FormLemmas.{form_known}
use Rattle.sedck_commands.proofs.FaultLemmas3.{no_verb_fault}
use Rattle.sedck_commands.specs.FirstFaults as fault
use Rattle.sedck_commands.proofs.commands.check_verb.Goals as goal
use Rattle.sedck_commands.proofs.commands.check_verb.Goals.{else-opens_block-via-then-opens_block+else-reader-ge-DEPTH_LIMIT, else-opens_block-via-else-opens_block}

pub returns-clause-begins : goal.returns-clause-begins
returns-clause-begins c = record {
  byte = c.in-Some.byte;
  cut = c.in-Some.ensures.cut;
  is = c.in-Some-form_of.ensures.some;
  whole = c.in-Some.ensures.ahead.0.whole;
  after = c.in-Some.ensures.ahead.1.0;
}

pub returns-in_default-clause-first : goal.returns-in_default-clause-first
returns-in_default-clause-first c = rw c.offset-place.ensures
    (fault.unknown (subst (IsEmptyOr (λ b. not (is_in b verb_bytes))) (sym c.in_default.ensures.cut) tt) (unread_length c.args.reader.cursor))

pub returns-in_default-form_of-clause-first : goal.returns-in_default-form_of-clause-first
returns-in_default-form_of-clause-first c =
    no_verb_fault c.no_verb.ensures c.offset-place.ensures (unread_length c.args.reader.cursor) c.in-Some.ensures.cut c.in_default-form_of.ensures.none

pub returns-then-not-takes-clause-first : goal.returns-then-not-takes-clause-first
returns-then-not-takes-clause-first c = rw c.offset-place.ensures
    (fault.addresses c.in-Some.ensures.cut (form_known c.in-Some.byte c.in-Some-form_of.form c.in-Some-form_of.ensures.some)
    (sym (c.takes.ensures c.in-Some.byte c.in-Some-form_of.ensures.some) ∙ c.if-not-takes.true) (unread_length c.args.reader.cursor))

pub returns-then-reader-ge-DEPTH_LIMIT-clause-first : goal.returns-then-reader-ge-DEPTH_LIMIT-clause-first
returns-then-reader-ge-DEPTH_LIMIT-clause-first c =
    let brace : c.in-Some.byte ≡ 123 =
    eqb-true c.in-Some.byte 123 (sym (c.opens_block.ensures c.in-Some.byte c.in-Some-form_of.ensures.some) ∙ c.if-opens_block.true) in
    rw c.offset-place.ensures
    (fault.deep (c.in-Some.ensures.cut ∙ ap (λ b. b ∷ unread c.in-Some.behind) brace) (omega arith) (unread_length c.args.reader.cursor))

pub returns-then-reader-ge-COMMAND_LIMIT-clause-first : goal.returns-then-reader-ge-COMMAND_LIMIT-clause-first
returns-then-reader-ge-COMMAND_LIMIT-clause-first c = rw c.offset-place.ensures
    (fault.many c.in-Some.ensures.cut (form_known c.in-Some.byte c.in-Some-form_of.form c.in-Some-form_of.ensures.some)
    (sym (c.takes.ensures c.in-Some.byte c.in-Some-form_of.ensures.some) ∙ c.if-not-takes.false)
    (λ e. elim c.else-opens_block.branch [
      | else-opens_block-via-then-opens_block+else-reader-ge-DEPTH_LIMIT w ↦ omega arith
      | else-opens_block-via-else-opens_block w ↦ absurd (both_ways _
          (sym (c.opens_block.ensures c.in-Some.byte c.in-Some-form_of.ensures.some) ∙ w.if-opens_block.false) (eq-eqb c.in-Some.byte 123 e))
    ]) (omega arith) (unread_length c.args.reader.cursor))

pub returns-clause-may : goal.returns-clause-may
returns-clause-may c = record {
  b = c.in-Some.byte;
  behind = unread c.in-Some.behind;
  cut = c.in-Some.ensures.cut;
  verb = form_known c.in-Some.byte c.in-Some-form_of.form c.in-Some-form_of.ensures.some;
  taken = sym (c.takes.ensures c.in-Some.byte c.in-Some-form_of.ensures.some) ∙ c.if-not-takes.false;
  shallow = λ e. elim c.else-opens_block.branch [
    | else-opens_block-via-then-opens_block+else-reader-ge-DEPTH_LIMIT w ↦ omega arith
    | else-opens_block-via-else-opens_block w ↦ absurd (both_ways _
        (sym (c.opens_block.ensures c.in-Some.byte c.in-Some-form_of.ensures.some) ∙ w.if-opens_block.false) (eq-eqb c.in-Some.byte 123 e))
  ];
  few = omega arith;
}
