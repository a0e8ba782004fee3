use Rattle.sedck_calls_in_files.proofs.Common.{◌≡◌, ◌∙◌, false, List, [], ◌∷◌, refl, sym, ap}
use Rattle.std.proofs.Common.{drop, drop_of_length-le}
use Rattle.sedck_found.specs.declared.found.Assumed.{Assumed}
use Rattle.sedck_origin.specs.declared.origin.Origin.{Origin}
use Rattle.sedck_calls_in_files.specs.Judged.{has_set_from as has_set_byte_from}
use Rattle.sedck_calls_in_files.proofs.values.has_set_from.Goals as goal

no_bytes : (assumed : List Assumed) (origins : List Origin) → has_set_byte_from assumed origins [] ≡ false
no_bytes assumed [] = refl
no_bytes assumed (origin ∷ origins) = refl

pub returns-then-bytes-index : goal.returns-then-bytes-index
returns-then-bytes-index c =
    let left = drop c.loop-index.index c.args.origins.now in
    sym (no_bytes c.args.assumed.now left)
    ∙ sym (ap (has_set_byte_from c.args.assumed.now left) (drop_of_length-le c.args.bytes.now c.if-bytes-index.true)) ∙ c.loop-index.invariant
