use Rattle.std.proofs.Common.{ℕ, List, ◌++◌, drop, map}
use Rattle.sedck_plain.specs.Private.Cutting.{AreScriptLists, bytes_of}
use Rattle.sedck_plain.proofs.written.script_lists.Given as goal

abbrev pub invariant-loop-location : goal.invariant-loop-location
invariant-loop-location l = (rest : List (List ℕ)) → AreScriptLists l.fn.text (drop l.location-index l.locations) rest
    → AreScriptLists l.fn.text l.locations (map bytes_of l.all.items ++ rest)
