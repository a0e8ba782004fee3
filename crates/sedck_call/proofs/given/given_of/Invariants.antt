use Rattle.std.proofs.Common.{◌≡◌, drop, map}
use Rattle.sedck_call.specs.Words.{after_words, outcome_of}
use Rattle.sedck_call.specs.Private.Readings.{reading_of}
use Rattle.sedck_call.proofs.given.given_of.Given as goal

-- the words so far are read
abbrev pub invariant-loop-number : goal.invariant-loop-number
invariant-loop-number l =
    after_words (reading_of l.given.items l.awaited) l.number (drop l.number (map (λ word. word.now) l.words))
    ≡ outcome_of (map (λ word. word.now) l.words)
