use borrow.Author.Tests.{ltb-true}
use Rattle.std.proofs.Common.{◌≡◌, [], ◌++◌, ⊎_elim, refl, ap, sym, ◌∙◌, subst, append-nil, arith}
use Rattle.std.proofs.lemmas.Slice.{first_rest}
use Rattle.sedck_plain.specs.Private.Cutting.{HasLeft}
use Rattle.sedck_plain.proofs.CutLemmas.{second_rest}
use Rattle.sedck_plain.proofs.LeftLemmas.{left_passed, left_context, left_custom, left_substitute, left_none, left_over}
use Rattle.sedck_plain.proofs.WrittenLemmas.{begin_at, lists_of_command}
use Rattle.sedck_plain.proofs.written.command_lists.Goals as goal
use Rattle.sedck_plain.proofs.written.command_lists.Goals.{in_default-via-then-rest-lt1, in_default-via-in-len1-up+else-is_passed+then-rest-lt1-2, in_default-via-in-len1-up-2+else-first-eq47+then-rest-lt2, in_default-via-in-len2-up-2+else-first-eq115}

pub pieces-init : goal.pieces-init
pieces-init c = λ all x.
    let begin = begin_at c.args.text.now c.args.location.start _ _ _ c.unwrap_or-rest.ensures refl c.get.ensures.lookup.0 in
    (all, ap (λ t. t ++ all) (sym c.new-lists.ensures.items), subst (λ t. HasLeft t all) (sym begin) x)

pub pieces-preserved-then-is_passed : goal.pieces-preserved-then-is_passed
pieces-preserved-then-is_passed c = λ all x.
    let one = c.pieces.invariant all x in
    let cut = first_rest c.pieces.rest.now 0 (omega (arith, c.in-len1-up.len_at_least)) in
    (one.0, one.1, left_passed _ _ _ (sym c.is_passed.ensures ∙ c.if-is_passed.true) (subst (λ t. HasLeft t one.0) cut one.2))

pub pieces-preserved-then-first-eq47 : goal.pieces-preserved-then-first-eq47
pieces-preserved-then-first-eq47 c = λ all x.
    let one = c.pieces.invariant all x in
    let cut = first_rest c.pieces.rest.now 0 (omega (arith, c.in-len1-up.len_at_least)) in
    let two = left_context _ _ c.pieces.lists.items _ _ one.0 c.if-first-eq47.true c.in_ok-rest-in-len1-up-2.ensures.lists (subst (λ t. HasLeft t one.0) cut one.2) in
    (two.0, one.1 ∙ two.1, two.2)

pub pieces-preserved : goal.pieces-preserved
pieces-preserved c = λ all x.
    let one = c.pieces.invariant all x in
    let cut = second_rest c.pieces.rest.now c.in-len2-up.len_at_least in
    let two = left_custom _ _ _ c.pieces.lists.items _ _ one.0 c.if-first-eq92.true c.in_ok-rest-in-len2-up.ensures.lists (subst (λ t. HasLeft t one.0) cut one.2) in
    (two.0, one.1 ∙ two.1, two.2)

pub returns-in-len2-up-2 : goal.returns-in-len2-up-2
returns-in-len2-up-2 c = lists_of_command _ _ c.args.location (λ all x.
    let one = c.pieces.invariant all x in
    let cut = second_rest c.pieces.rest.now c.in-len2-up.len_at_least in
    one.1 ∙ left_substitute _ _ _ c.pieces.lists.items _ _ one.0 c.if-first-eq115.true c.in_ok-push_lists-in-len2-up-2.ensures.lists
    (subst (λ t. HasLeft t one.0) cut one.2))

pub returns-in_default : goal.returns-in_default
returns-in_default c = lists_of_command _ _ c.args.location (λ all x.
    let one = c.pieces.invariant all x in
    let none : one.0 ≡ [] = elim c.in_default.branch [
      | in_default-via-then-rest-lt1 w ↦ left_none _ one.0 (omega (arith, ltb-true)) one.2
      | in_default-via-in-len1-up+else-is_passed+then-rest-lt1-2 w ↦ left_none _ one.0 (omega (arith, ltb-true)) one.2
      | in_default-via-in-len1-up-2+else-first-eq47+then-rest-lt2 w ↦
          left_over _ _ _ one.0 (first_rest c.pieces.rest.now 0 (omega (arith, w.in-len1-up.len_at_least))) (sym w.is_passed.ensures ∙ w.if-is_passed.false)
          w.if-first-eq47.false (λ begins. omega (arith, ltb-true)) one.2
      | in_default-via-in-len2-up-2+else-first-eq115 w ↦
          left_over _ _ _ one.0 (first_rest c.pieces.rest.now 0 (omega (arith, w.in-len1-up.len_at_least))) (sym w.is_passed.ensures ∙ w.if-is_passed.false)
          w.if-first-eq47.false (⊎_elim (λ is. absurd (w.if-first-eq92.false is)) (λ is. absurd (w.if-first-eq115.false is))) one.2
    ] in
    one.1 ∙ (ap (λ t. c.pieces.lists.items ++ t) none ∙ append-nil c.pieces.lists.items))
