use Rattle.sedck_commands.proofs.Common.{◌≡◌, map, drop, Some, kept_from, pattern_of, part_of}
use Rattle.sedck_commands.proofs.replacements.kept_groups.Given as goal

-- the parts that are left decide from the groups so far
abbrev pub invariant-loop-part : goal.invariant-loop-part
invariant-loop-part l =
    kept_from (pattern_of l.pattern) (Some 0) (map part_of l.parts) ≡ kept_from (pattern_of l.pattern) (Some l.groups) (drop l.part-index (map part_of l.parts))
