use Rattle.sedck_model.proofs.Common.{◌≡◌, ℕ, suc, ◌+◌, ◌-◌, ◌≤◌, List, [], ◌∷◌, length, get_or, drop, map, Some, None, ◌⊎◌, inl, inr, sym, ap, ◌∙◌, subst, rules, arith, ◌↔◌, eqb-true, sequence, Bre, tree-Any, Spot, reached, Leads, Among, IsLed, AreLed, AreWithin, Adds, IsWithout, Passes, Steps, UpTo, Many}
use Rattle.std.proofs.Common.{vec_len}
use Rattle.std.proofs.lemmas.List.{drop_more, drop_all, nil_from_length}
use Rattle.sedck_bre.specs.Tree.{trees}
use Rattle.sedck_bre.specs.Tree as spec
use Rattle.sedck_bre.specs.View.{tree, bytes_in}
use Rattle.sedck_expressions.specs.declared.tree.Bre.{the_lemmas}
use Rattle.sedck_expressions.proofs.ViewLemmas.{tree-Group, tree-Seq, tree-Repeat}
use Rattle.sedck_model.proofs.ViewLemmas.{tree-Byte, tree-Set, tree-Maybe, tree-Ref}
use Rattle.sedck_model.proofs.LedLemmas.{AddsLed-more, AddsLed-all, AreLed-from_adds, AreLed-same, AreWithin-at, AreWithin-added}
use Rattle.sedck_model.proofs.StepsLemmas.{both_ways, led_through, Later, Further, steps_begin, up_to_begin, up_to_more, up_to_end, many_begin, many_closed, many_more, many_end}
use Rattle.sedck_model.proofs.LeadsLemmas.{nil_leads, byte_leads, any_leads, set_leads, maybe_leads, ref_leads}
use Rattle.sedck_model.proofs.FollowLemmas.{leads_as, if_led, if_led_as, if_led_after, maybe_led, seq_more, either_one, group_between, group_step, repeat_many, repeat_up_to}
use Rattle.sedck_model.proofs.following.+following.Goals as goal

same_within : (text : List ℕ) (xs ys : List Spot) → ys ≡ xs → AreWithin text xs → AreWithin text ys
same_within text xs ys is = subst (AreWithin text) (sym is)

pub follow-returns-in_ok-from_slice-in-Start-clause-within : goal.follow-returns-in_ok-from_slice-in-Start-clause-within
follow-returns-in_ok-from_slice-in-Start-clause-within t c =
    same_within c.args.text.now c.args.from.now c.in_ok-from_slice-in-Start.field-0.items c.in_ok-from_slice-in-Start.ensures.items c.requires

pub follow-returns-in-Byte-clause-led : goal.follow-returns-in-Byte-clause-led
follow-returns-in-Byte-clause-led t c =
    let e = c.args.expression.now in
    if_led (Passes (tree e)) (Leads (tree e)) c.args.text.now c.args.from.now c.pass-in-Byte.result
    (elim c.in-Byte.is [
      | inl (b, is) ↦ leads_as Passes e (spec.Byte b) (ap tree is ∙ tree-Byte b) (byte_leads b)
      | inr (inl is) ↦ leads_as Passes e spec.Any (ap tree is ∙ tree-Any) any_leads
      | inr (inr (inl (set, is))) ↦ leads_as Passes e (spec.Set (bytes_in set.0)) (ap tree is ∙ tree-Set set) (set_leads (bytes_in set.0))
      | inr (inr (inr (k, is))) ↦ leads_as Passes e (spec.Ref k) (ap tree is ∙ tree-Ref k) (ref_leads k)
    ])
    c.pass-in-Byte.ensures.led

pub follow-returns-in_ok-add_all-in-Maybe-clause-led : goal.follow-returns-in_ok-add_all-in-Maybe-clause-led
follow-returns-in_ok-add_all-in-Maybe-clause-led t c =
    let e = c.args.expression.now in
    let b = c.in-Maybe.field-0 in
    let text = c.args.text.now in
    let from = c.args.from.now in
    let new = c.add_all.new.spots.items in
    let passed = c.in_ok-passed-in-Maybe.passed.items in
    let adds = rw (c.in_ok-spots-in-Maybe.ensures.items, c.deref.ensures.value) at c.in_ok-add_all-in-Maybe.ensures.added in
    AreLed-same (λ x y. (y ≡ x) ⊎ Passes (tree e) x y) (Leads (tree e)) text from new
    (leads_as (λ u x y. (y ≡ x) ⊎ Passes u x y) e (spec.Maybe b) (ap tree c.in-Maybe.is ∙ tree-Maybe b) (maybe_leads b))
    (maybe_led (Passes (tree e)) text from passed new adds c.in_ok-passed-in-Maybe.ensures.led)

pub follow-returns-in_ok-add_all-in-Maybe-clause-within : goal.follow-returns-in_ok-add_all-in-Maybe-clause-within
follow-returns-in_ok-add_all-in-Maybe-clause-within t c =
    let text = c.args.text.now in
    AreWithin-added text c.in_ok-spots-in-Maybe.spots.items c.deref.result.now c.add_all.new.spots.items c.in_ok-add_all-in-Maybe.ensures.added
    (same_within text c.args.from.now c.in_ok-spots-in-Maybe.spots.items c.in_ok-spots-in-Maybe.ensures.items c.requires)
    (same_within text c.in_ok-passed-in-Maybe.passed.items c.deref.result.now c.deref.ensures.value c.in_ok-passed-in-Maybe.ensures.within)

pub follow-returns-in-Group-clause-led : goal.follow-returns-in-Group-clause-led
follow-returns-in-Group-clause-led t c =
    let k = c.in-Group.group in
    let shape = ap tree c.in-Group.is ∙ (tree-Group k c.in-Group.body ∙ ap (λ (x : Bre). spec.Group k (tree x)) (sym c.deref-in-Group.ensures)) in
    if_led_as c.args.text.now c.args.from.now c.follow_group.result (tree c.args.expression.now) (spec.Group k (tree c.deref-in-Group.result.now)) shape
    c.follow_group.ensures.led

pub follow-returns-in-Seq-clause-led : goal.follow-returns-in-Seq-clause-led
follow-returns-in-Seq-clause-led t c =
    let shape = ap tree c.in-Seq.is ∙ (tree-Seq c.in-Seq.items ∙ ap sequence (sym c.deref-in-Seq.ensures.value)) in
    if_led_as c.args.text.now c.args.from.now c.follow_all.result (tree c.args.expression.now) (sequence c.deref-in-Seq.result.now) shape
    c.follow_all.ensures.led

pub follow-returns-in-Repeat-clause-led : goal.follow-returns-in-Repeat-clause-led
follow-returns-in-Repeat-clause-led t c =
    let least = c.in-Repeat.least in
    let most = c.in-Repeat.most in
    let shape = ap tree c.in-Repeat.is
    ∙ (tree-Repeat c.in-Repeat.body least most ∙ ap (λ (x : Bre). spec.Repeat (tree x) least most) (sym c.deref-in-Repeat.ensures)) in
    if_led_as c.args.text.now c.args.from.now c.follow_repeat.result (tree c.args.expression.now)
    (spec.Repeat (tree c.deref-in-Repeat.result.now) least most) shape c.follow_repeat.ensures.led

pub follow_all-loop-item-init : goal.follow_all-loop-item-init
follow_all-loop-item-init t c =
    let text = c.args.text.now in
    let from = c.args.from.now in
    let spots = c.in_ok-spots.spots.items in
    let same : spots ≡ from = c.in_ok-spots.ensures.items in
    record {
      led = λ to.
          let leads = Leads (sequence c.args.items.now) in
          subst (λ (xs : List Spot). IsLed leads text from to ↔ IsLed leads text xs to) (sym same) (λ h. h, λ h. h);
      within = same_within text from spots same c.requires;
      spent = omega arith;
    }

pub follow_all-follow-requires : goal.follow_all-follow-requires
follow_all-follow-requires t c = (search (rules, the_lemmas), same_within c.args.text.now c.loop-item.spots.items c.deref.result.now c.deref.ensures.value c.loop-item.invariant.within)

pub follow_all-loop-item-preserved : goal.follow_all-loop-item-preserved
follow_all-loop-item-preserved t c =
    let text = c.args.text.now in
    let from = c.args.from.now in
    let items = c.args.items.now in
    let spots = c.loop-item.spots.items in
    let new = c.in_ok-spots-2.spots.items in
    let i = c.loop-item.item-index in
    let item = c.item-item.result in
    let rest = drop (i + 1) items in
    let led : AreLed (Leads (tree item)) text spots new =
    subst (λ (xs : List Spot). AreLed (Leads (tree item)) text xs new) c.deref.ensures.value c.in_ok-spots-2.ensures.led in
    let cut : drop i items ≡ item ∷ rest = drop_more items i item c.loop-item-test.true ∙ ap (λ (x : Bre). x ∷ rest) (sym c.item-item.is) in
    record {
      led = λ to.
          both_ways
          (subst (λ (xs : List Bre). IsLed (Leads (sequence items)) text from to ↔ IsLed (Leads (sequence xs)) text spots to) cut
          (c.loop-item.invariant.led to))
          (seq_more (tree item) (trees (map tree rest)) text spots new led to);
      within = c.in_ok-spots-2.ensures.within;
      spent = omega arith;
    }

pub follow_all-returns-clause-led : goal.follow_all-returns-clause-led
follow_all-returns-clause-led t c to =
    let text = c.args.text.now in
    let items = c.args.items.now in
    let from = c.args.from.now in
    let spots = c.loop-item.spots.items in
    let none : drop c.loop-item.item-index items ≡ [] = drop_all c.loop-item.item-index items c.loop-item-test.false in
    both_ways
    (subst (λ (xs : List Bre). IsLed (Leads (sequence items)) text from to ↔ IsLed (Leads (sequence xs)) text spots to) none
    (c.loop-item.invariant.led to)) (
      λ (s, there, leads). (s, there, (nil_leads (reached text s) to).0 leads),
      λ (s, there, is). (s, there, (nil_leads (reached text s) to).1 is),
    )

pub follow_group-follow-requires : goal.follow_group-follow-requires
follow_group-follow-requires t c =
    let text = c.args.text.now in
    let from = c.args.from.now in
    let d : Spot = record { at = 0; groups = [] } in
    let s = get_or from c.loop-spot.spot-index d in
    let first : s.at ≤ length text = AreWithin-at text from c.loop-spot.spot-index d c.loop-spot-test.true c.requires in
    let second : c.entered.result.at ≤ length text = omega (arith, first, c.entered.ensures.at) in (
      search rules,
      λ x there.
          elim (either_one s c.entered.result x there) [
            | inl is ↦ subst (λ (y : Spot). y.at ≤ length text) (sym is) first
            | inr is ↦ subst (λ (y : Spot). y.at ≤ length text) (sym is) second
          ],
    )

pub follow_group-loop-spot-preserved : goal.follow_group-loop-spot-preserved
follow_group-loop-spot-preserved t c =
    let text = c.args.text.now in
    let from = c.args.from.now in
    let body = tree c.args.body.now in
    let k = c.args.group in
    let i = c.loop-spot.spot-index in
    let d : Spot = record { at = 0; groups = [] } in
    let s = get_or from i d in
    let u = c.entered.result in
    let spots = c.loop-spot.spots.items in
    let ends = c.deref.result.now in
    let new = c.add_closed.new.spots.items in
    let below = c.loop-spot-test.true in
    let led : AreLed (Leads body) text (s ∷ u ∷ []) ends =
    subst (AreLed (Leads body) text (s ∷ u ∷ [])) (sym c.deref.ensures.value) c.in_ok-ends.ensures.led in
    let within : AreWithin text ends = same_within text c.in_ok-ends.ends.items ends c.deref.ensures.value c.in_ok-ends.ensures.within in
    let place = c.entered.ensures.at in
    let groups = c.entered.ensures.groups text in
    let between = group_between k body text s u ends place groups led (AreWithin-at text from i d below c.requires) within in
    let one = group_step k body text s u ends place groups led spots new (c.in_ok-add_closed.ensures.added text between) in
    record {
      led = AddsLed-more (Leads (spec.Group k body)) text [] from spots new i d below c.loop-spot.invariant.led one;
      within = c.in_ok-add_closed.ensures.within text c.loop-spot.invariant.within within;
      spent = omega arith;
    }

pub follow_group-returns-clause-led : goal.follow_group-returns-clause-led
follow_group-returns-clause-led t c =
    let leads = Leads (spec.Group c.args.group (tree c.args.body.now)) in
    let text = c.args.text.now in
    let from = c.args.from.now in
    let spots = c.loop-spot.spots.items in
    AreLed-from_adds leads text from spots
    (AddsLed-all leads text [] from spots c.loop-spot.spot-index c.loop-spot-test.false c.loop-spot.invariant.led)

pub follow_many-rounds-init : goal.follow_many-rounds-init
follow_many-rounds-init t c =
    let text = c.args.text.now in
    let from = c.args.from.now in
    let leads = Leads (tree c.args.body.now) in
    let spots = c.in_ok-spots.spots.items in
    let newest = c.in_ok-newest.newest.items in
    let same : spots ≡ from = c.in_ok-spots.ensures.items in
    let same' : newest ≡ from = c.in_ok-newest.ensures.items in
    let latest : newest ≡ spots = same' ∙ sym same in
    record {
      led = λ to.
          subst (λ (xs : List Spot). IsLed (Many leads) text from to ↔ (Among text xs to ⊎ IsLed (Further leads) text newest to)) (sym same)
          (subst (λ (xs : List Spot). IsLed (Many leads) text from to ↔ (Among text from to ⊎ IsLed (Further leads) text xs to)) (sym same')
          (many_begin leads text from to));
      closed = λ x y there _. inl (subst (λ (xs : List Spot). Among text xs x) (sym latest) there);
      within = same_within text from spots same c.requires;
      newest = same_within text from newest same' c.requires;
      spent = omega arith;
    }

pub follow_many-follow-requires : goal.follow_many-follow-requires
follow_many-follow-requires t c = (search rules, same_within c.args.text.now c.rounds.newest.items c.deref.result.now c.deref.ensures.value c.rounds.invariant.newest)

pub follow_many-rounds-preserved : goal.follow_many-rounds-preserved
follow_many-rounds-preserved t c =
    let text = c.args.text.now in
    let leads = Leads (tree c.args.body.now) in
    let spots = c.rounds.spots.items in
    let newest = c.rounds.newest.items in
    let after = c.in_ok-after.after.items in
    let fresh = c.in_ok-newest-2.newest.items in
    let new = c.add_all.new.spots.items in
    let led : AreLed leads text newest after = subst (λ (xs : List Spot). AreLed leads text xs after) c.deref.ensures.value c.in_ok-after.ensures.led in
    let rest : IsWithout after spots fresh =
    subst (λ (xs : List Spot). IsWithout xs spots fresh) c.deref-in-rounds.ensures.value
    (subst (λ (xs : List Spot). IsWithout c.deref-in-rounds.result.now xs fresh) c.deref-in-rounds-2.ensures.value c.in_ok-newest-2.ensures) in
    let adds : Adds spots fresh new =
    subst (λ (xs : List Spot). Adds spots xs new) c.deref-in-rounds-3.ensures.value c.in_ok-add_all.ensures.added in
    let within : AreWithin text fresh = λ s there. c.in_ok-after.ensures.within s (rest.only s there) in
    record {
      led = λ to. both_ways (c.rounds.invariant.led to) (many_more leads text spots newest after fresh new led rest adds c.rounds.invariant.closed to);
      closed = many_closed leads text spots newest after fresh new led rest adds c.rounds.invariant.closed;
      within = AreWithin-added text spots fresh new adds c.rounds.invariant.within within;
      newest = within;
      spent = omega (arith, c.in_ok-spend.ensures.ok);
    }

pub follow_many-returns-clause-led : goal.follow_many-returns-clause-led
follow_many-returns-clause-led t c to =
    let text = c.args.text.now in
    let leads = Leads (tree c.args.body.now) in
    let spots = c.rounds.spots.items in
    let newest = c.rounds.newest in
    let no_more : vec_len newest ≡ 0 = eqb-true (vec_len newest) 0 (sym c.rounds-test.ensures) in
    let none : newest.items ≡ [] = nil_from_length newest.items (omega (arith, no_more, newest.ok.0)) in
    both_ways
    (subst (λ (xs : List Spot). IsLed (Many leads) text c.args.from.now to ↔ (Among text spots to ⊎ IsLed (Further leads) text xs to)) none
    (c.rounds.invariant.led to))
    (many_end leads text spots to)

pub follow_repeat-follow_many-requires : goal.follow_repeat-follow_many-requires
follow_repeat-follow_many-requires t c = (search rules, same_within c.args.text.now c.in_ok-spots.spots.items c.deref.result.now c.deref.ensures.value c.in_ok-spots.ensures.within)

pub follow_repeat-returns-in-None-clause-led : goal.follow_repeat-returns-in-None-clause-led
follow_repeat-returns-in-None-clause-led t c =
    let body = tree c.args.body.now in
    let least = c.args.times.least in
    let text = c.args.text.now in
    let from = c.args.from.now in
    if_led_as text from c.follow_many.result (spec.Repeat body least c.args.times.most) (spec.Repeat body least None)
    (ap (spec.Repeat body least) c.in-None.is)
    (if_led_after (Steps (Leads body) least) (Many (Leads body)) (Leads (spec.Repeat body least None)) text from c.in_ok-spots.spots.items
    c.deref.result.now c.follow_many.result c.in_ok-spots.ensures.led c.deref.ensures.value (repeat_many body least) c.follow_many.ensures.led)

pub follow_repeat-follow_up_to-requires : goal.follow_repeat-follow_up_to-requires
follow_repeat-follow_up_to-requires t c = (search rules, same_within c.args.text.now c.in_ok-spots.spots.items c.deref-else-most-least.result.now c.deref-else-most-least.ensures.value c.in_ok-spots.ensures.within)

pub follow_repeat-returns-clause-led : goal.follow_repeat-returns-clause-led
follow_repeat-returns-clause-led t c =
    let body = tree c.args.body.now in
    let least = c.args.times.least in
    let most = c.in-Some.most in
    let text = c.args.text.now in
    let from = c.args.from.now in
    if_led_as text from c.follow_up_to.result (spec.Repeat body least c.args.times.most) (spec.Repeat body least (Some most))
    (ap (spec.Repeat body least) c.in-Some.is)
    (if_led_after (Steps (Leads body) least) (UpTo (Leads body) (most - least)) (Leads (spec.Repeat body least (Some most))) text from
    c.in_ok-spots.spots.items c.deref-else-most-least.result.now c.follow_up_to.result c.in_ok-spots.ensures.led c.deref-else-most-least.ensures.value
    (repeat_up_to body least most (omega arith)) c.follow_up_to.ensures.led)

pub follow_times-loop-round-init : goal.follow_times-loop-round-init
follow_times-loop-round-init t c =
    let text = c.args.text.now in
    let from = c.args.from.now in
    let leads = Leads (tree c.args.body.now) in
    let spots = c.in_ok-spots.spots.items in
    let same : spots ≡ from = c.in_ok-spots.ensures.items in
    record {
      led = λ n is to.
          subst (λ (xs : List Spot). IsLed (Steps leads c.args.times) text from to ↔ IsLed (Steps leads n) text xs to) (sym same)
          (steps_begin leads text c.args.times n from (omega arith) to);
      within = same_within text from spots same c.requires;
      spent = omega arith;
    }

pub follow_times-follow-requires : goal.follow_times-follow-requires
follow_times-follow-requires t c = (search rules, same_within c.args.text.now c.loop-round.spots.items c.deref.result.now c.deref.ensures.value c.loop-round.invariant.within)

pub follow_times-loop-round-preserved : goal.follow_times-loop-round-preserved
follow_times-loop-round-preserved t c =
    let text = c.args.text.now in
    let leads = Leads (tree c.args.body.now) in
    let spots = c.loop-round.spots.items in
    let new = c.in_ok-spots-2.spots.items in
    let led : AreLed leads text spots new = subst (λ (xs : List Spot). AreLed leads text xs new) c.deref.ensures.value c.in_ok-spots-2.ensures.led in
    record {
      led = λ n is to. both_ways (c.loop-round.invariant.led (suc n) (omega arith) to) (led_through leads (Steps leads n) text spots new led to);
      within = c.in_ok-spots-2.ensures.within;
      spent = omega arith;
    }

pub follow_times-returns-clause-led : goal.follow_times-returns-clause-led
follow_times-returns-clause-led t c = c.loop-round.invariant.led 0 (omega arith)

pub follow_up_to-loop-round-init : goal.follow_up_to-loop-round-init
follow_up_to-loop-round-init t c =
    let text = c.args.text.now in
    let from = c.args.from.now in
    let leads = Leads (tree c.args.body.now) in
    let spots = c.in_ok-spots.spots.items in
    let newest = c.in_ok-newest.newest.items in
    let same : spots ≡ from = c.in_ok-spots.ensures.items in
    let same' : newest ≡ from = c.in_ok-newest.ensures.items in
    record {
      led = λ n is to.
          let size : c.args.most ≡ n = omega arith in
          subst (λ (xs : List Spot). IsLed (UpTo leads c.args.most) text from to ↔ (Among text xs to ⊎ IsLed (Later leads n) text newest to)) (sym same)
          (subst (λ (xs : List Spot). IsLed (UpTo leads c.args.most) text from to ↔ (Among text from to ⊎ IsLed (Later leads n) text xs to)) (sym same')
          (subst (λ m. IsLed (UpTo leads c.args.most) text from to ↔ (Among text from to ⊎ IsLed (Later leads m) text from to)) size
          (up_to_begin leads text c.args.most from to)));
      within = same_within text from spots same c.requires;
      newest = same_within text from newest same' c.requires;
      spent = omega arith;
    }

pub follow_up_to-follow-requires : goal.follow_up_to-follow-requires
follow_up_to-follow-requires t c = (search rules, same_within c.args.text.now c.loop-round.newest.items c.deref.result.now c.deref.ensures.value c.loop-round.invariant.newest)

pub follow_up_to-loop-round-preserved : goal.follow_up_to-loop-round-preserved
follow_up_to-loop-round-preserved t c =
    let text = c.args.text.now in
    let leads = Leads (tree c.args.body.now) in
    let spots = c.loop-round.spots.items in
    let newest = c.loop-round.newest.items in
    let after = c.in_ok-newest-2.newest.items in
    let new = c.add_all.new.spots.items in
    let led : AreLed leads text newest after = subst (λ (xs : List Spot). AreLed leads text xs after) c.deref.ensures.value c.in_ok-newest-2.ensures.led in
    let adds : Adds spots after new =
    subst (λ (xs : List Spot). Adds spots xs new) c.deref-in-loop-round.ensures.value c.in_ok-add_all.ensures.added in
    record {
      led = λ n is to. both_ways (c.loop-round.invariant.led (suc n) (omega arith) to) (up_to_more leads text n spots newest after new led adds to);
      within = AreWithin-added text spots after new adds c.loop-round.invariant.within c.in_ok-newest-2.ensures.within;
      newest = c.in_ok-newest-2.ensures.within;
      spent = omega arith;
    }

pub follow_up_to-returns-clause-led : goal.follow_up_to-returns-clause-led
follow_up_to-returns-clause-led t c to =
    let leads = Leads (tree c.args.body.now) in
    both_ways (c.loop-round.invariant.led 0 (omega arith) to) (up_to_end leads c.args.text.now c.loop-round.spots.items c.loop-round.newest.items to)
