use Rattle.std.proofs.Common.{◌≡◌, ◌-◌, drop, length}
use Rattle.sedck_call.specs.Words.{letters}
use Rattle.sedck_call.specs.Private.Readings.{reading_of}
use Rattle.sedck_call.specs.declared.given.Awaited.TheVariants.{Any}
use Rattle.sedck_call.proofs.given.read_letters.Given as goal

-- the letters so far are read
abbrev pub invariant-loop-from : goal.invariant-loop-from
invariant-loop-from l =
    letters (reading_of l.given.items Any) l.number l.from (drop l.from l.word)
    ≡ letters (reading_of l.initial.given.items Any) l.number 1 (drop 1 l.word)

abbrev pub decreases-loop-from : goal.decreases-loop-from
decreases-loop-from l = length l.word - l.from
