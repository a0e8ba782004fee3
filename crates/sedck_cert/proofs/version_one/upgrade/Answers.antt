use Rattle.sedck_cert.proofs.Common.{sym, ap, subst, ◌∙◌, IsCertificate, doubled, names_of, Two}
use Rattle.sedck_cert.specs.Private.Fields.{with_parts}
use Rattle.sedck_cert.proofs.Upgraded.{upgraded_is}
use Rattle.sedck_cert.proofs.version_one.upgrade.Goals as goal

pub of_parts-requires : goal.of_parts-requires
of_parts-requires c =
    let ranks = c.in_ok-doubled.ensures ∙ ap doubled c.deref.ensures.value in
    let reads = c.in_ok-copied.ensures ∙ ap names_of c.deref-2.ensures.value in
    let writes = c.in_ok-copied-2.ensures ∙ ap names_of c.deref-3.ensures.value in
    subst (IsCertificate Two) (λ i. record { commands = c.one.inside.parts.commands; ranks = sym ranks i; reads = sym reads i; writes = sym writes i })
    (upgraded_is (with_parts c.one.inside.parts) c.one.invariant)
