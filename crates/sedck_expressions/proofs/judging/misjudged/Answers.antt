use Rattle.sedck_expressions.proofs.Common.{[], refl, sym, ap, subst, ◌∙◌, or-true, append-nil, Whole, tree, has_misjudged_reference, StopsAt, misjudges_reference, misjudges_anchor, Sought}
use Rattle.sedck_expressions.proofs.Along.{IsFirst, none_misjudged, stops_misjudged}
use Rattle.sedck_expressions.proofs.PartLemmas.{reference_found, misjudges_reference_of, misjudges_anchor_of}
use Rattle.sedck_expressions.proofs.WithoutBackslash.{without_backslash}
use Rattle.sedck_expressions.proofs.judging.misjudged.Goals as goal
use Rattle.sedck_expressions.proofs.judging.misjudged.Goals.{else-not-references-via-then-not-references+else-not-anchors, else-not-references-via-else-not-references}

pub returns-then-not-has_backslash : goal.returns-then-not-has_backslash
returns-then-not-has_backslash c =
    without_backslash c.args.text.now (tree c.args.expression.now) c.requires.0 (sym c.has_backslash.ensures ∙ c.if-not-has_backslash.true)

pub returns-then-not-anchors : goal.returns-then-not-anchors
returns-then-not-anchors c =
    let t = tree c.args.expression.now in
    let reference = c.misjudges_reference-references.ensures ∙ ap (λ p. misjudges_reference t p) c.parts_of-parts.ensures ∙ misjudges_reference_of t in
    let anchor = c.misjudges_anchor-anchors.ensures ∙ ap (λ p. misjudges_anchor p) c.parts_of-parts.ensures ∙ misjudges_anchor_of t in
    rw (sym reference ∙ c.if-not-references.true, sym anchor ∙ c.if-not-anchors.true) refl

pub returns-in-Ok : goal.returns-in-Ok
returns-in-Ok c =
    let t = tree c.args.expression.now in
    let reference = c.misjudges_reference-references.ensures ∙ ap (λ p. misjudges_reference t p) c.parts_of-parts.ensures ∙ misjudges_reference_of t in
    let any = c.has_reference.ensures ∙ ap (λ p. p.has_reference) c.parts_of-parts.ensures ∙ reference_found t in
    let passed = c.in-Ok.ensures.passes Whole c.args.text.now [] (c.new.ensures.left ∙ sym (append-nil c.args.text.now)) c.requires.0 in
    none_misjudged _ _ reference any passed.1

pub returns-in-Err : goal.returns-in-Err
returns-in-Err c =
    let t = tree c.args.expression.now in
    let reference = c.misjudges_reference-references.ensures ∙ ap (λ p. misjudges_reference t p) c.parts_of-parts.ensures ∙ misjudges_reference_of t in
    let anchor = c.misjudges_anchor-anchors.ensures ∙ ap (λ p. misjudges_anchor p) c.parts_of-parts.ensures ∙ misjudges_anchor_of t in
    let any = c.has_reference.ensures ∙ ap (λ p. p.has_reference) c.parts_of-parts.ensures ∙ reference_found t in
    let sought : Sought = record { references = c.misjudges_reference-references.result; anchors = c.has_reference.result } in
    let passed = c.in-Err.ensures.passes Whole c.args.text.now [] (c.new.ensures.left ∙ sym (append-nil c.args.text.now)) c.requires.0 in
    let here = subst (λ w. StopsAt sought t w.now c.in-Err.fault) c.new.ensures.whole passed.0 in
    let first = subst (λ n. IsFirst sought t c.args.text.now n c.in-Err.fault) c.new.ensures.at passed.1 in (
      elim c.else-not-references.branch [
        | else-not-references-via-then-not-references+else-not-anchors w ↦
            rw (sym anchor ∙ w.if-not-anchors.false) (or-true (has_misjudged_reference t))
        | else-not-references-via-else-not-references w ↦ rw (sym reference ∙ w.if-not-references.false) refl
      ],
      stops_misjudged sought c.args.text.now t c.in-Err.fault reference any here first,
    )
