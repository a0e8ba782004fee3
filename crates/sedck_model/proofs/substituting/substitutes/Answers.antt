use Rattle.sedck_model.proofs.Common.{◌≡◌, ◌∙◌, inl, inr, take, refl, sym, subst, arith, take_all, Contains-push_cases, substitution_of, trees_in, ReplacesIn}
use Rattle.std.proofs.Common.{Contains}
use Rattle.sedck_bre.specs.View.{tree}
use Rattle.sedck_model.proofs.Contained.{one_more_tree, tree_among}
use Rattle.sedck_model.proofs.Replacing.{substituted, begun_of}
use Rattle.sedck_model.proofs.substituting.substitutes.Goals as goal

pub returns-then-branch-clause-decided : goal.returns-then-branch-clause-decided
returns-then-branch-clause-decided c =
    let s = substitution_of c.args.substitution.now in
    let items = c.deref-expression-items.result.now in
    let x = tree c.expression-item.result.now in
    let among : Contains (trees_in c.in_ok-expressions.expressions.items) x =
    subst (λ xs. Contains (trees_in xs) x) c.deref-expression-items.ensures.value
    (tree_among items c.loop-expression.expression-index c.expression-item.result c.loop-expression-test.true c.expression-item.is) in (
      λ _. substituted c.args.script.now s x c.args.old_text.now c.args.new_text.now ((c.in_ok-expressions.ensures x).0 among)
          (c.in_ok-replaces_in.ensures.decided.0 c.if-branch.true),
      λ _. refl,
    )

pub loop-expression-preserved : goal.loop-expression-preserved
loop-expression-preserved c =
    let s = substitution_of c.args.substitution.now in
    let items = c.deref-expression-items.result.now in
    let i = c.loop-expression.expression-index in
    let one = c.expression-item.result in
    let more = one_more_tree items i one c.loop-expression-test.true c.expression-item.is in record {
      none = λ t found r. elim (Contains-push_cases (trees_in (take i items)) (tree one.now) t (subst (λ xs. Contains xs t) more found)) [
        | inl before ↦ c.loop-expression.invariant.none t before r
        | inr is ↦
            let yes = c.in_ok-replaces_in.ensures.decided.1 (subst (λ y. ReplacesIn y s c.args.old_text.now c.args.new_text.now) (sym is) r) in
            absurd (cc (yes, c.if-branch.false))
      ];
      spent = omega (arith, c.replaces_in.ensures.spent, c.loop-expression.invariant.spent);
    }

pub returns-clause-decided : goal.returns-clause-decided
returns-clause-decided c =
    let items = c.deref-expression-items.result.now in
    let i = c.loop-expression.expression-index in
    let all : take i items ≡ c.in_ok-expressions.expressions.items = take_all i items c.loop-expression-test.false ∙ c.deref-expression-items.ensures.value in (
      λ is. absurd (cc is),
      λ r. let begun = begun_of c.args.script.now (substitution_of c.args.substitution.now) c.args.old_text.now c.args.new_text.now r in
          let among = (c.in_ok-expressions.ensures begun.tree).1 begun.is_expression in
          absurd (c.loop-expression.invariant.none begun.tree (subst (λ xs. Contains (trees_in xs) begun.tree) (sym all) among) begun.replaces),
    )
