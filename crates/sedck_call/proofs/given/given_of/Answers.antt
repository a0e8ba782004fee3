use Rattle.std.proofs.Common.{sym, subst, ap, ◌∙◌, drop, map, ◌+◌}
use Rattle.sedck_call.specs.Words.{going_on, after_words}
use Rattle.sedck_call.specs.Private.Readings.{reading_of, answered}
use Rattle.sedck_call.proofs.Words.{next_word}
use Rattle.sedck_call.proofs.given.given_of.Goals as goal

pub returns-in_default-clause-fault : goal.returns-in_default-clause-fault
returns-in_default-clause-fault c =
    sym c.loop-number.invariant
    ∙ next_word (λ word. word.now) (reading_of c.loop-number.given.items c.loop-number.awaited) c.args.words.now c.loop-number.number _ c.loop-number-test.true
    ∙ ap (going_on c.loop-number.number (λ next. after_words next (c.loop-number.number + 1) (drop (c.loop-number.number + 1) (map (λ word. word.now) c.args.words.now))))
    (c.in_ok-next.ensures ∙ ap (answered c.read_word.new.given.items) c.in_default.is)

pub loop-number-preserved : goal.loop-number-preserved
loop-number-preserved c =
    sym (next_word (λ word. word.now) (reading_of c.loop-number.given.items c.loop-number.awaited) c.args.words.now c.loop-number.number _ c.loop-number-test.true
    ∙ ap (going_on c.loop-number.number (λ next. after_words next (c.loop-number.number + 1) (drop (c.loop-number.number + 1) (map (λ word. word.now) c.args.words.now))))
    (c.in_ok-next.ensures ∙ ap (answered c.read_word.new.given.items) c.in-Some.is))
    ∙ c.loop-number.invariant
