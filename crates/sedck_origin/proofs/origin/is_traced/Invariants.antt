use Rattle.std.proofs.Common.{◌≡◌, drop}
use Rattle.sedck_origin.specs.Traced.{is_traced_from, is_traced as is_traced_text}
use Rattle.sedck_origin.proofs.origin.is_traced.Given as goal

-- what is left decides
abbrev pub invariant-loop-index : goal.invariant-loop-index
invariant-loop-index l =
    is_traced_from l.file l.from (drop l.index l.bytes) (drop l.index l.origins) ≡ is_traced_text l.file l.bytes l.origins
