use Rattle.std.proofs.Common.{map, nat_eq, ap, sym, ◌∙◌}
use Rattle.std.proofs.lemmas.Bool.{not-false}
use Rattle.std.proofs.lemmas.Slice.Eq.{slice_eq-Decides, bytes_eq-Decides}
use Rattle.std.specs.Cmp.Derive.Mapped.{pointwise-map}
use Rattle.std.specs.Cmp.Lexicographic.{pointwise}
use Rattle.sedck_plain.specs.Private.Cutting.{bytes_of}
use Rattle.sedck_plain.proofs.plain.compare.Goals as goal

pub returns-clause-lists : goal.returns-clause-lists
returns-clause-lists c = λ items spelled.
    let mapped = pointwise-map bytes_of (pointwise nat_eq) c.args.lists.now c.as_slice.result.now in
    let equal = slice_eq-Decides bytes_eq-Decides (map bytes_of c.args.lists.now) (map bytes_of c.as_slice.result.now) _ (sym mapped) in
    c.in_ok-others.ensures items spelled ∙ (ap (map bytes_of) (sym c.as_slice.ensures.value) ∙ sym (equal.0 (not-false _ (sym c.ne.ensures ∙ c.if-ne.false))))
