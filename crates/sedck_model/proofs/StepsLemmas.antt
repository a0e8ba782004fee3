-- Where several steps of a relation lead, and what a loop keeps that makes them.
use Rattle.sedck_model.proofs.Common.{◌≡◌, ℕ, zero, suc, ◌+◌, ◌<◌, List, [], ◌⊎◌, inl, inr, refl, sym, subst, arith, ◌↔◌, Contains, Spot, Reached, reached, Relation, Among, IsLed, AreLed, Adds, IsWithout, Steps, UpTo, Many}
use Rattle.std.proofs.Common.{zero-add, suc-add}
use Rattle.sedck_model.proofs.ListLemmas.{none_contained}
use Rattle.sedck_model.proofs.LedLemmas.{has_added}

pub both_ways : {A B C : Type 0} → A ↔ B → B ↔ C → A ↔ C
both_ways first second = (λ a. second.0 (first.0 a), λ c. first.1 (second.1 c))

-- first one relation, then the other one
abbrev pub After : Relation → Relation → Relation
After first second from to = (between : Reached) × first from between × second between to

pub led_through : (a b : Relation) (text : List ℕ) (from mid : List Spot) → AreLed a text from mid → (to : Reached)
    → IsLed (After a b) text from to ↔ IsLed b text mid to
led_through a b text from mid led to = (
  λ (s, there, (between, first, second)).
      let (x, among, is) = (led between).0 (s, there, first) in (x, among, subst (λ (y : Reached). b y to) is second),
  λ (x, among, second).
      let (s, there, first) = (led (reached text x)).1 (x, among, refl) in (s, there, (reached text x, first, second)),
)

pub steps_added : (leads : Relation) (a b : ℕ) (from to : Reached) → Steps leads (a + b) from to ↔ After (Steps leads a) (Steps leads b) from to
steps_added leads zero b from to = (
  λ steps. (from, refl, rw zero-add at steps),
  λ (between, is, steps). rw zero-add (subst (λ (y : Reached). Steps leads b y to) is steps),
)
steps_added leads (suc a) b from to = (
  λ steps.
      let (x, first, rest) = one_less.0 steps in
      let (between, left, right) = (steps_added leads a b x to).0 rest in (between, (x, first, left), right),
  λ (between, (x, first, left), right). one_less.1 (x, first, (steps_added leads a b x to).1 (between, left, right)),
)
  where
    one_less : Steps leads (suc a + b) from to ↔ After leads (Steps leads (a + b)) from to
    one_less = rw suc-add (λ h. h, λ h. h)

-- more than one step, of so many at most
abbrev pub Later : Relation → ℕ → Relation
Later leads n from to = (m : ℕ) × (m < n) × Steps leads (suc m) from to

-- at least one step
abbrev pub Further : Relation → Relation
Further leads from to = (m : ℕ) × Steps leads (suc m) from to

module _ (leads : Relation) (text : List ℕ) where
  pub steps_begin : (n m : ℕ) (from : List Spot) → m ≡ n → (to : Reached) → IsLed (Steps leads n) text from to ↔ IsLed (Steps leads m) text from to
  steps_begin n m from same to = subst (λ k. IsLed (Steps leads n) text from to ↔ IsLed (Steps leads k) text from to) (sym same) (λ h. h, λ h. h)

  pub up_to_begin : (most : ℕ) (from : List Spot) (to : Reached) → IsLed (UpTo leads most) text from to ↔ (Among text from to ⊎ IsLed (Later leads most) text from to)
  up_to_begin most from to = (forth, back)
    where
      forth : IsLed (UpTo leads most) text from to → Among text from to ⊎ IsLed (Later leads most) text from to
      forth (s, there, (zero, below, is)) = inl (s, there, is)
      forth (s, there, (suc m, below, steps)) = inr (s, there, (m, omega arith, steps))

      back : Among text from to ⊎ IsLed (Later leads most) text from to → IsLed (UpTo leads most) text from to
      back (inl (s, there, is)) = (s, there, (0, omega arith, is))
      back (inr (s, there, (m, below, steps))) = (s, there, (suc m, omega arith, steps))

  pub up_to_more : (n : ℕ) (spots newest after new : List Spot) → AreLed leads text newest after → Adds spots after new → (to : Reached)
      → (Among text spots to ⊎ IsLed (Later leads (suc n)) text newest to) ↔ (Among text new to ⊎ IsLed (Later leads n) text after to)
  up_to_more n spots newest after new led adds to = (forth, back)
    where
      added : Among text new to ↔ (Among text spots to ⊎ Among text after to)
      added = has_added (λ s. to ≡ reached text s) spots after new adds

      forth : Among text spots to ⊎ IsLed (Later leads (suc n)) text newest to → Among text new to ⊎ IsLed (Later leads n) text after to
      forth (inl old) = inl (added.1 (inl old))
      forth (inr (s, there, (zero, below, (between, first, is)))) =
          inl (added.1 (inr ((led to).0 (s, there, subst (λ (y : Reached). leads (reached text s) y) (sym is) first))))
      forth (inr (s, there, (suc m, below, (between, first, steps)))) =
          let (x, among, is) = (led between).0 (s, there, first) in
          inr (x, among, (m, omega arith, subst (λ (y : Reached). Steps leads (suc m) y to) is steps))

      back : Among text new to ⊎ IsLed (Later leads n) text after to → Among text spots to ⊎ IsLed (Later leads (suc n)) text newest to
      back (inl among) = elim (added.0 among) [
        | inl old ↦ inl old
        | inr there ↦ let (s, among', first) = (led to).1 there in inr (s, among', (0, omega arith, (to, first, refl)))
      ]
      back (inr (x, there, (m, below, steps))) =
          let (s, among, first) = (led (reached text x)).1 (x, there, refl) in inr (s, among, (suc m, omega arith, (reached text x, first, steps)))

  pub up_to_end : (spots newest : List Spot) (to : Reached) → (Among text spots to ⊎ IsLed (Later leads 0) text newest to) ↔ Among text spots to
  up_to_end spots newest to = (λ h. elim h [ inl among ↦ among | inr (s, there, (m, below, steps)) ↦ absurd (omega arith) ], λ among. inl among)

  pub many_begin : (from : List Spot) (to : Reached) → IsLed (Many leads) text from to ↔ (Among text from to ⊎ IsLed (Further leads) text from to)
  many_begin from to = (forth, back)
    where
      forth : IsLed (Many leads) text from to → Among text from to ⊎ IsLed (Further leads) text from to
      forth (s, there, (zero, is)) = inl (s, there, is)
      forth (s, there, (suc m, steps)) = inr (s, there, (m, steps))

      back : Among text from to ⊎ IsLed (Further leads) text from to → IsLed (Many leads) text from to
      back (inl (s, there, is)) = (s, there, (0, is))
      back (inr (s, there, (m, steps))) = (s, there, (suc m, steps))

  -- one step leads from the spots to them again, but for the newest ones
  abbrev pub IsClosed : List Spot → List Spot → Type 0
  IsClosed spots newest = (x y : Reached) → Among text spots x → leads x y → Among text newest x ⊎ Among text spots y

  -- what any number of steps lead to is there, or is to be found from the newest ones
  pub settled : (spots newest : List Spot) → IsClosed spots newest → (n : ℕ) (x to : Reached) → Among text spots x → Steps leads n x to
      → Among text spots to ⊎ IsLed (Further leads) text newest to
  settled spots newest closed zero x to there is = inl (subst (Among text spots) (sym is) there)
  settled spots newest closed (suc n) x to there (y, first, steps) =
      elim (closed x y there first) [
        | inl (s, new, is) ↦ inr (s, new, (n, (y, subst (λ (z : Reached). leads z y) is first, steps)))
        | inr further ↦ settled spots newest closed n y to further steps
      ]

  -- one round: what is new after a step from the newest ones is followed next
  module _ (spots newest after fresh new : List Spot) (led : AreLed leads text newest after) (rest : IsWithout after spots fresh) (adds : Adds spots fresh new) where
    added_fresh : (to : Reached) → Among text new to ↔ (Among text spots to ⊎ Among text fresh to)
    added_fresh to = has_added (λ s. to ≡ reached text s) spots fresh new adds

    after_known : (to : Reached) → Among text after to → Among text new to
    after_known to (s, there, is) =
        elim (rest.all s there) [ inl old ↦ (added_fresh to).1 (inl (s, old, is)) | inr kept ↦ (added_fresh to).1 (inr (s, kept, is)) ]

    led_newest : (x y : Reached) → Among text newest x → leads x y → Among text after y
    led_newest x y (s, there, is) first = (led y).0 (s, there, subst (λ (z : Reached). leads z y) is first)

    fresh_led : (s : Spot) → Contains fresh s → IsLed leads text newest (reached text s)
    fresh_led s there = (led (reached text s)).1 (s, rest.only s there, refl)

    pub many_closed : IsClosed spots newest → IsClosed new fresh
    many_closed closed x y there first =
        elim ((added_fresh x).0 there) [
          | inl old ↦ elim (closed x y old first) [
            | inl latest ↦ inr (after_known y (led_newest x y latest first))
            | inr known ↦ inr ((added_fresh y).1 (inl known))
          ]
          | inr latest ↦ inl latest
        ]

    pub many_more : IsClosed spots newest → (to : Reached)
        → (Among text spots to ⊎ IsLed (Further leads) text newest to) ↔ (Among text new to ⊎ IsLed (Further leads) text fresh to)
    many_more closed to = (forth, back)
      where
        forth : Among text spots to ⊎ IsLed (Further leads) text newest to → Among text new to ⊎ IsLed (Further leads) text fresh to
        forth (inl old) = inl ((added_fresh to).1 (inl old))
        forth (inr (s, there, (n, (between, first, steps)))) =
            settled new fresh (many_closed closed) n between to (after_known between ((led between).0 (s, there, first))) steps

        back : Among text new to ⊎ IsLed (Further leads) text fresh to → Among text spots to ⊎ IsLed (Further leads) text newest to
        back (inl there) = elim ((added_fresh to).0 there) [
          | inl old ↦ inl old
          | inr (s, kept, is) ↦
              let (x, among, first) = fresh_led s kept in inr (x, among, (0, (reached text s, first, is)))
        ]
        back (inr (s, there, (n, steps))) = let (x, among, first) = fresh_led s there in inr (x, among, (suc n, (reached text s, first, steps)))

  pub many_end : (spots : List Spot) (to : Reached) → (Among text spots to ⊎ IsLed (Further leads) text [] to) ↔ Among text spots to
  many_end spots to = (λ h. elim h [ inl among ↦ among | inr (s, there, _) ↦ absurd (none_contained s there) ], λ among. inl among)
