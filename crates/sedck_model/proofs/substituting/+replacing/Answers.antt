use Rattle.sedck_model.proofs.Common.{◌∙◌, ◌≤◌, ◌<◌, [], inl, inr, length, take, drop, ◌-◌, get_or, refl, sym, subst, arith, take_more, take_all, Contains-get_or, Contains-push_cases, same_text, other_text, substitution_of, Spot, Replaces, ReplacesAt}
use Rattle.std.proofs.Common.{Contains}
use Rattle.sedck_bre.specs.View.{tree}
use Rattle.sedck_model.proofs.Replacing.{continues_alike, continues_at, continues_cases, replaces_by, replaces_at_some, rest_whole, shared_take}
use Rattle.sedck_model.proofs.substituting.+replacing.Goals as goal

pub continues-returns-then-eq-clause-decided : goal.continues-returns-then-eq-clause-decided
continues-returns-then-eq-clause-decided t c = (
  λ _. continues_alike (tree c.args.replacing.expression.now) (substitution_of c.args.replacing.substitution.now) c.args.least c.args.old_text.now c.args.new_text.now
      (same_text c.args.old_text.now c.args.new_text.now c.if-eq.ensures),
  λ _. refl,
)

pub continues-returns-then-branch-clause-decided : goal.continues-returns-then-branch-clause-decided
continues-returns-then-branch-clause-decided t c =
    let s = substitution_of c.args.replacing.substitution.now in
    let x = tree c.args.replacing.expression.now in
    let old = c.args.old_text.now in
    let new = c.args.new_text.now in
    let k = c.loop-length.length in
    let found = c.in_ok-replaces.ensures.decided.0 c.if-branch.true in
    let follows : Replaces x s (drop k old) (drop k new) =
    subst (λ n. Replaces x s (drop k old) n) (rest_whole k new)
    (subst (λ o. Replaces x s o (take (length new - k) (drop k new))) (rest_whole k old) found) in
    let within : k ≤ c.shared_length-shared.result = omega (arith, c.loop-length-test.true) in
    let all : c.shared_length-shared.result ≤ length old = c.shared_length-shared.ensures.one in (
      λ _. continues_at x s c.args.least k old new c.if-not-replacing.false c.loop-length.auto.length (omega arith)
          (shared_take k c.shared_length-shared.result old new within c.shared_length-shared.ensures.shared) follows,
      λ _. refl,
    )

pub continues-returns-clause-decided : goal.continues-returns-clause-decided
continues-returns-clause-decided t c =
    let s = substitution_of c.args.replacing.substitution.now in
    let x = tree c.args.replacing.expression.now in
    let old = c.args.old_text.now in
    let new = c.args.new_text.now in (
      λ is. absurd (cc is),
      λ h. elim (continues_cases x s c.args.least old new h) [
        | inl same ↦ absurd (other_text old new c.if-eq.ensures same)
        | inr more ↦
            let k = more.1.0 in
            let longest : k ≤ c.shared_length-shared.result = c.shared_length-shared.ensures.longest k more.1.2 more.1.3 more.1.4 in
            absurd (c.loop-length.invariant.none k more.1.1 (omega (arith, c.loop-length-test.false)) more.1.5)
      ],
    )

pub replaces-returns-then-branch-clause-decided : goal.replaces-returns-then-branch-clause-decided
replaces-returns-then-branch-clause-decided t c =
    let s = substitution_of c.args.replacing.substitution.now in
    let x = tree c.args.replacing.expression.now in
    let old = c.args.old_text.now in
    let spots = c.in_ok-spots.spots.items in
    let i = c.loop-spot.spot-index in
    let one = get_or spots i (record { at = 0; groups = [] }) in
    let same = c.deref-spot-items.ensures.value in
    let inside : i < length spots = subst (λ xs. i < length xs) same c.loop-spot-test.true in
    let at : ReplacesAt x s old c.args.new_text.now one =
    subst (λ xs. ReplacesAt x s old c.args.new_text.now (get_or xs i (record { at = 0; groups = [] }))) same (c.in_ok-replaces_at.ensures.decided.0 c.if-branch.true) in (
      λ _. replaces_by x s old c.args.new_text.now spots one c.in_ok-spots.ensures.ends c.in_ok-spots.ensures.places (Contains-get_or spots i (record { at = 0; groups = [] }) inside) at,
      λ _. refl,
    )

pub replaces-loop-spot-preserved : goal.replaces-loop-spot-preserved
replaces-loop-spot-preserved t c =
    let s = substitution_of c.args.replacing.substitution.now in
    let x = tree c.args.replacing.expression.now in
    let items = c.deref-spot-items.result.now in
    let i = c.loop-spot.spot-index in
    let none : Spot = record { at = 0; groups = [] } in
    let one = get_or items i none in record {
      none = λ spot found r. elim (Contains-push_cases (take i items) one spot (subst (λ xs. Contains xs spot) (take_more items i none c.loop-spot-test.true) found)) [
        | inl before ↦ c.loop-spot.invariant.none spot before r
        | inr is ↦ let yes = c.in_ok-replaces_at.ensures.decided.1 (subst (λ y. ReplacesAt x s c.args.old_text.now c.args.new_text.now y) (sym is) r) in absurd (cc (yes, c.if-branch.false))
      ];
      spent = omega (arith, c.replaces_at.ensures.spent, c.loop-spot.invariant.spent);
    }

pub replaces-returns-clause-decided : goal.replaces-returns-clause-decided
replaces-returns-clause-decided t c =
    let s = substitution_of c.args.replacing.substitution.now in
    let x = tree c.args.replacing.expression.now in
    let spots = c.in_ok-spots.spots.items in
    let items = c.deref-spot-items.result.now in
    let i = c.loop-spot.spot-index in
    let same = c.deref-spot-items.ensures.value in (
      λ is. absurd (cc is),
      λ r. let found = replaces_at_some x s c.args.old_text.now c.args.new_text.now spots c.in_ok-spots.ensures.ends c.in_ok-spots.ensures.places r in
          absurd (c.loop-spot.invariant.none found.0 (subst (λ xs. Contains xs found.0) (sym (take_all i items c.loop-spot-test.false ∙ same)) found.1) found.2),
    )
