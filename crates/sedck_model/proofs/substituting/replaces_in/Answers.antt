use Rattle.sedck_model.proofs.Common.{◌≤◌, ◌-◌, length, take, drop, refl, subst, arith, substitution_of, Replaces}
use Rattle.sedck_bre.specs.View.{tree}
use Rattle.sedck_model.proofs.Replacing.{replaces_in_at, replaces_in_from, rest_whole, shared_take}
use Rattle.sedck_model.proofs.substituting.replaces_in.Goals as goal

pub returns-then-branch-clause-decided : goal.returns-then-branch-clause-decided
returns-then-branch-clause-decided c =
    let s = substitution_of c.args.replacing.substitution.now in
    let x = tree c.args.replacing.expression.now in
    let old = c.args.old_text.now in
    let new = c.args.new_text.now in
    let k = c.loop-length.length in
    let found = c.in_ok-replaces.ensures.decided.0 c.if-branch.true in
    let follows : Replaces x s (drop k old) (drop k new) =
    subst (λ n. Replaces x s (drop k old) n) (rest_whole k new)
    (subst (λ o. Replaces x s o (take (length new - k) (drop k new))) (rest_whole k old) found) in
    let within : k ≤ c.shared_length-shared.result = omega (arith, c.loop-length-test.true) in (
      λ _. replaces_in_at x s k old new (shared_take k c.shared_length-shared.result old new within c.shared_length-shared.ensures.shared) follows,
      λ _. refl,
    )

pub returns-clause-decided : goal.returns-clause-decided
returns-clause-decided c = (
  λ is. absurd (cc is),
  λ h. let at = replaces_in_from (tree c.args.replacing.expression.now) (substitution_of c.args.replacing.substitution.now) c.args.old_text.now c.args.new_text.now h in
      let longest : at.0 ≤ c.shared_length-shared.result = c.shared_length-shared.ensures.longest at.0 at.1 at.2 at.3 in
      absurd (c.loop-length.invariant.none at.0 (omega (arith, c.loop-length-test.false)) at.4),
)
