use Rattle.std.proofs.Common.{map, ap, sym, ◌∙◌, subst}
use Rattle.sedck_plain.specs.Private.Cutting.{HasLists, bytes_of}
use Rattle.sedck_plain.proofs.plain.plain_of.Goals as goal

pub returns-clause-lists : goal.returns-clause-lists
returns-clause-lists c = λ items others first second.
    let printed = subst (λ t. HasLists t (map bytes_of c.deref-5.result.now)) c.deref-3.ensures.value c.in_ok-compare.ensures.lists in
    c.in_ok-lists.ensures items first ∙ ap (map bytes_of) (sym c.deref-5.ensures.value) ∙ sym (printed others second)
