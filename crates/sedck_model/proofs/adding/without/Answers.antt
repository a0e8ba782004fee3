use Rattle.sedck_model.proofs.Common.{◌≡◌, ◌∷◌, [], ◌++◌, ◌+◌, ◌∙◌, sym, get_or, take, arith, Contains, take_more, false≢true, Spot}
use Rattle.sedck_model.proofs.SameSpots.{same_spot, equal_spots}
use Rattle.sedck_model.proofs.ListLemmas.{without_kept, without_left}
use Rattle.sedck_model.proofs.adding.without.Goals as goal
use Rattle.sedck_model.proofs.adding.without.Goals.{then-not-contains+in_ok-push, else-not-contains}

pub loop-spot-preserved : goal.loop-spot-preserved
loop-spot-preserved c =
    let spots = c.args.spots.now in
    let others = c.args.others.now in
    let i = c.loop-spot.spot-index in
    let d : Spot = record { at = 0; groups = [] } in
    let x = get_or spots i d in
    let more : take (i + 1) spots ≡ take i spots ++ x ∷ [] = take_more spots i d c.loop-spot-test.true in
    elim c.if-not-contains.branch [
      | then-not-contains+in_ok-push w ↦
          let apart : Contains others x → ⊥ =
          λ (k, below, is). false≢true (sym (w.if-not-contains.ensures.cases k x (omega arith) below) ∙ equal_spots (get_or others k x) x is) in
          rw w.left-is (rw (more, w.in_ok-push.ensures.items) (without_kept (take i spots) others c.loop-spot.left.items x c.loop-spot.invariant apart))
      | else-not-contains w ↦
          let found = w.if-not-contains.ensures.cases in
          let there : Contains others x = (found.0, found.1, same_spot (get_or others found.0 x) x (found.2 x)) in
          rw w.left-is (rw more (without_left (take i spots) others c.loop-spot.left.items x c.loop-spot.invariant there))
    ]
