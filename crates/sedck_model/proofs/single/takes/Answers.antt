use Rattle.sedck_model.proofs.Common.{sym, ap, ◌∙◌, subst, arith, ◌↔◌, Tree, tree}
use Rattle.std.specs.Prelude.{IsTrue}
use Rattle.sedck_model.specs.Private.Relations.{Takes}
use Rattle.sedck_model.proofs.ViewLemmas.{tree-Set, has_byte}
use Rattle.sedck_model.proofs.single.takes.Goals as goal

pub returns-in-Set : goal.returns-in-Set
returns-in-Set c =
    let set = c.in-Set.set in
    let same = has_byte set.0 c.args.byte (omega (arith, c.ranges.byte)) in
    subst (λ (t : Tree). IsTrue c.is_member.result ↔ Takes t c.args.byte) (sym (ap tree c.in-Set.is ∙ tree-Set set))
    (λ h. same ∙ (sym c.is_member.ensures ∙ h), λ h. c.is_member.ensures ∙ (sym same ∙ h))
