use Rattle.sedck_engines.proofs.Common.{◌≡◌, ◌-◌, ◌≤◌, vec_len, Consumes}
use Rattle.sedck_engines.proofs.input.read_up_to.Given as goal

abbrev pub invariant-loop-input : goal.invariant-loop-input
invariant-loop-input g l = Consumes (g.S.Source.left l.initial.source) (g.S.Source.left l.source) l.bytes.items
    × (vec_len l.bytes ≤ l.limit) × (vec_len l.block ≡ 65536)

abbrev pub decreases-loop-input : goal.decreases-loop-input
decreases-loop-input g l = l.limit - vec_len l.bytes
