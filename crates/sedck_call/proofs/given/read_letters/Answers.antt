use Rattle.std.proofs.Common.{sym, subst, arith, ◌∙◌, IfOk, ◌≡◌, ◌⊎◌}
use Rattle.sedck_call.specs.Private.Readings.{reading_of, answered}
use Rattle.sedck_call.specs.declared.given.Awaited.TheVariants.{Any}
use Rattle.sedck_call.specs.declared.option.Taken.TheVariants.{Argument, Suffix}
use Rattle.sedck_call.proofs.Words.{attached_letter}
use Rattle.sedck_call.proofs.given.read_letters.Goals as goal

pub returns-in-Argument : goal.returns-in-Argument
returns-in-Argument c =
    subst (λ reading. IfOk c.read_attached.result (λ next. reading ≡ answered c.read_attached.new.given.items next))
    (sym (attached_letter (reading_of c.loop-from.given.items Any) c.args.number c.loop-from.from c.args.word.now c.in-Some.option
    (omega (arith, c.loop-from-test.true, c.if-from-word.false)) (sym c.of_letter.ensures ∙ c.in-Some.is)
    (subst (λ t. (t ≡ Argument) ⊎ (t ≡ Suffix)) c.taken.ensures c.in-Argument.is))
    ∙ c.loop-from.invariant)
    c.read_attached.ensures
