use Rattle.std.proofs.Common.{◌-◌, sym, ◌∙◌, inl, inr, arith}
use Rattle.sedck_errors.proofs.Offsets.{begins_before, shorter, escaped_step, pair_step, byte_step, at_byte}
use Rattle.sedck_errors.proofs.refusals.offset_in_expression.Goals.{else-left-gt1-via-then-left-gt1+else-is_pair, else-left-gt1-via-else-left-gt1}
use Rattle.sedck_errors.proofs.refusals.offset_in_expression.Goals as goal

pub loop-left-init : goal.loop-left-init
loop-left-init c = record {
  within = shorter c.args.start c.args.text.now c.args.text.now c.skipped-rest.result.now c.skipped-rest.ensures (omega arith);
  before = λ delimiter expression after opened cut less.
      begins_before delimiter c.args.text.now c.skipped-rest.result.now expression after c.args.start c.args.offset cut c.skipped-rest.ensures c.requires less;
}

-- an escaped delimiter
pub loop-left-preserved-then-is_escaped : goal.loop-left-preserved-then-is_escaped
loop-left-preserved-then-is_escaped c = record {
  within = shorter 2 c.args.text.now c.loop-left.rest.now c.skipped-rest-then-is_escaped.result.now c.skipped-rest-then-is_escaped.ensures c.loop-left.invariant.within;
  before = λ delimiter expression after opened cut less.
      escaped_step delimiter c.args.text.now after c.loop-left.rest.now _ c.byte_before-delimiter.result c.loop-left.left (c.loop-left.left - 1) c.skipped-rest-then-is_escaped.result.now
      (c.byte_before-delimiter.ensures delimiter opened) (c.loop-left.invariant.before delimiter expression after opened cut less)
      (omega (arith, c.loop-left-test.true)) c.skipped-rest-then-is_escaped.ensures (sym c.is_escaped.ensures ∙ c.if-is_escaped.true);
}

-- another pair
pub loop-left-preserved-then-is_pair : goal.loop-left-preserved-then-is_pair
loop-left-preserved-then-is_pair c = record {
  within = shorter 2 c.args.text.now c.loop-left.rest.now c.skipped-rest-then-is_pair.result.now c.skipped-rest-then-is_pair.ensures c.loop-left.invariant.within;
  before = λ delimiter expression after opened cut less.
      pair_step delimiter c.args.text.now after c.loop-left.rest.now _ c.byte_before-delimiter.result c.loop-left.left (c.loop-left.left - 2) c.skipped-rest-then-is_pair.result.now
      (c.byte_before-delimiter.ensures delimiter opened) (c.loop-left.invariant.before delimiter expression after opened cut less)
      (omega (arith, c.if-left-gt1.true)) c.skipped-rest-then-is_pair.ensures (sym c.is_escaped.ensures ∙ c.if-is_escaped.false) (sym c.is_pair.ensures ∙ c.if-is_pair.true);
}

-- one byte
pub loop-left-preserved : goal.loop-left-preserved
loop-left-preserved c = record {
  within = shorter 1 c.args.text.now c.loop-left.rest.now c.skipped-rest-else-left-gt1.result.now c.skipped-rest-else-left-gt1.ensures c.loop-left.invariant.within;
  before = λ delimiter expression after opened cut less.
      byte_step delimiter c.args.text.now after c.loop-left.rest.now _ c.byte_before-delimiter.result c.loop-left.left (c.loop-left.left - 1) c.skipped-rest-else-left-gt1.result.now
      (c.byte_before-delimiter.ensures delimiter opened) (c.loop-left.invariant.before delimiter expression after opened cut less)
      (omega (arith, c.loop-left-test.true)) c.skipped-rest-else-left-gt1.ensures (sym c.is_escaped.ensures ∙ c.if-is_escaped.false)
      (elim c.else-left-gt1.branch [
        | else-left-gt1-via-then-left-gt1+else-is_pair w ↦ inl (sym w.is_pair.ensures ∙ w.if-is_pair.false)
        | else-left-gt1-via-else-left-gt1 w ↦ inr (omega (arith, w.if-left-gt1.false))
      ]);
}

pub returns : goal.returns
returns c = λ delimiter expression after opened cut less.
    let at = at_byte delimiter c.args.text.now after c.loop-left.rest.now _ c.loop-left.left (c.loop-left.invariant.before delimiter expression after opened cut less)
    (omega (arith, c.loop-left-test.false)) in omega (arith, at, c.loop-left.invariant.within)
