use Rattle.sedck_cert.proofs.Common.{◌≡◌, ◌+◌, ◌∷◌, drop, arith, ap, sym, ◌∙◌, subst, false, IsTrue, names_of, AreNext, one_before, drop_all}
use Rattle.sedck_cert.proofs.NameLimits.{names_next, next_names, names-few, left_cons}
use Rattle.sedck_cert.proofs.certificate.size_with.Goals as goal

pub returns-then-not-is_next_name : goal.returns-then-not-is_next_name
returns-then-not-is_next_name c are small =
    let left = c.loop-name.invariant.0.0 (names_next (names_of c.args.names.now) c.args.size are small) in
    let first = left_cons (λ n. n.items) c.args.names.now c.loop-name.name-index c.name-item.result c.loop-name-test.true c.name-item.is
    ∙ ap (λ t. t ∷ names_of (drop (c.loop-name.name-index + 1) c.args.names.now)) (sym c.deref.ensures.value) in
    let next = subst (λ t. AreNext (one_before c.loop-name.before) t c.loop-name.size) first left in
    let yes' : IsTrue c.is_next_name.result = c.is_next_name.ensures.1 (next.0, next.1, next.2) in
    let no' : c.is_next_name.result ≡ false = c.if-not-is_next_name.true in
    cc

pub returns : goal.returns
returns c =
    let none = drop_all c.loop-name.name-index c.args.names.now c.loop-name-test.false in
    let end : AreNext (one_before c.loop-name.before) (names_of (drop c.loop-name.name-index c.args.names.now)) c.loop-name.size =
    rw none c.loop-name.invariant.2 in (
      (next_names (names_of c.args.names.now) c.args.size (names-few _ c.if-names-gt4095.false) (c.loop-name.invariant.0.1 end)).0,
      omega (arith, rw none at c.loop-name.invariant.1),
      c.loop-name.invariant.2,
    )
