use Rattle.sedck_advice.proofs.Common.{◌≡◌, ◌||◌, drop, map, list_any, command_of}
use Rattle.sedck_report.specs.Files.{is_there}
use Rattle.sedck_advice.specs.References.{refers}
use Rattle.sedck_advice.proofs.references.references_in.Given as goal

-- what was found, with the commands that are left
abbrev pub invariant-loop-index : goal.invariant-loop-index
invariant-loop-index l =
    (is_there l.offsets.items || list_any refers (map command_of (drop l.index l.command-items))) ≡ list_any refers (map command_of l.command-items)
