use Rattle.std.proofs.Common.{[], drop, append-nil, arith}
use Rattle.std.proofs.lemmas.List.{length-drop, nil_from_length}
use Rattle.sedck_plain.proofs.WrittenLemmas.{lists_read, no_script_lists}
use Rattle.sedck_plain.proofs.written.script_lists.Goals as goal

pub returns : goal.returns
returns c =
    let over = nil_from_length (drop c.loop-location.location-index c.args.locations.now)
    (omega (arith, length-drop c.loop-location.location-index c.args.locations.now, c.loop-location-test.false)) in
    lists_read _ _ _ c.requires (rw append-nil at (c.loop-location.invariant [] (no_script_lists _ _ over)))
