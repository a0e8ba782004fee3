-- Where each form of a tree leads from a list of spots.
use Rattle.sedck_model.proofs.Common.{◌≡◌, ℕ, ◌+◌, ◌-◌, ◌≤◌, List, [], ◌∷◌, length, drop, Some, None, Result, ◌⊎◌, inl, inr, refl, sym, ap, ◌∙◌, subst, arith, ◌↔◌, Contains, IfOk, IfOk-weaker, Tree, Trees, Group, Seq, Repeat, Then, unset, tree, Bre, Spot, Reached, reached, groups_of, Leads, Relation, Among, IsLed, AreLed, AreWithin, Adds, AddsLed, IsBetween, Closes, Steps, UpTo, Many}
use Rattle.std.proofs.Common.{Vec, Global}
use Rattle.sedck_model.specs.declared.spending.Undecided.{Undecided}
use Rattle.sedck_model.proofs.ListLemmas.{first_contained, later_contained, contained_cases, only_contained}
use Rattle.sedck_model.proofs.LedLemmas.{AreLed-same, has_added, has_one}
use Rattle.sedck_model.proofs.StepsLemmas.{After, both_ways, led_through, steps_added}
use Rattle.sedck_model.proofs.LeadsLemmas.{then_leads, repeat_leads, Enters, unset_at, group_leads}

-- what is so of the form is so of the tree
pub leads_as : (a : Tree → Relation) (e : Bre) (t : Tree) → tree e ≡ t → ((x y : Reached) → a t x y ↔ Leads t x y) → (x y : Reached) → a (tree e) x y ↔ Leads (tree e) x y
leads_as a e t is both = subst (λ (u : Tree). (x y : Reached) → a u x y ↔ Leads u x y) (sym is) both

pub if_led : (a b : Relation) (text : List ℕ) (from : List Spot) (r : Result (Vec Spot Global) Undecided) → ((x y : Reached) → a x y ↔ b x y)
    → IfOk r (λ spots. AreLed a text from spots.items) → IfOk r (λ spots. AreLed b text from spots.items)
if_led a b text from r both =
    IfOk-weaker r (λ spots. AreLed a text from spots.items) (λ spots. AreLed b text from spots.items) (λ spots. AreLed-same a b text from spots.items both)

pub if_led_as : (text : List ℕ) (from : List Spot) (r : Result (Vec Spot Global) Undecided) (t u : Tree) → t ≡ u → IfOk r (λ spots. AreLed (Leads u) text from spots.items)
    → IfOk r (λ spots. AreLed (Leads t) text from spots.items)
if_led_as text from r t u is = subst (λ (v : Tree). IfOk r (λ spots. AreLed (Leads v) text from spots.items)) (sym is)

pub if_led_after : (a b c : Relation) (text : List ℕ) (from mid mid' : List Spot) (r : Result (Vec Spot Global) Undecided) → AreLed a text from mid → mid' ≡ mid
    → ((x y : Reached) → After a b x y ↔ c x y) → IfOk r (λ spots. AreLed b text mid' spots.items) → IfOk r (λ spots. AreLed c text from spots.items)
if_led_after a b c text from mid mid' r first same both =
    IfOk-weaker r (λ spots. AreLed b text mid' spots.items) (λ spots. AreLed c text from spots.items)
    (λ spots second to. both_ways (same_led to) (both_ways (led_through a b text from mid' (subst (AreLed a text from) (sym same) first) to) (second to)))
  where
    same_led : (to : Reached) → IsLed c text from to ↔ IsLed (After a b) text from to
    same_led to = (
      λ (s, there, leads). (s, there, (both (reached text s) to).1 leads),
      λ (s, there, leads). (s, there, (both (reached text s) to).0 leads),
    )

pub maybe_led : (p : Relation) (text : List ℕ) (from passed new : List Spot) → Adds from passed new → AreLed p text from passed
    → AreLed (λ x y. (y ≡ x) ⊎ p x y) text from new
maybe_led p text from passed new adds led to = (forth, back)
  where
    added : Among text new to ↔ (Among text from to ⊎ Among text passed to)
    added = has_added (λ s. to ≡ reached text s) from passed new adds

    forth : IsLed (λ x y. (y ≡ x) ⊎ p x y) text from to → Among text new to
    forth (s, there, inl is) = added.1 (inl (s, there, is))
    forth (s, there, inr leads) = added.1 (inr ((led to).0 (s, there, leads)))

    back : Among text new to → IsLed (λ x y. (y ≡ x) ⊎ p x y) text from to
    back h = elim (added.0 h) [
      | inl (s, there, is) ↦ (s, there, inl is)
      | inr there ↦ let (s, among, leads) = (led to).1 there in (s, among, inr leads)
    ]

pub seq_more : (item : Tree) (rest : Trees) (text : List ℕ) (from mid : List Spot) → AreLed (Leads item) text from mid → (to : Reached)
    → IsLed (Leads (Seq (Then item rest))) text from to ↔ IsLed (Leads (Seq rest)) text mid to
seq_more item rest text from mid led to = both_ways same (led_through (Leads item) (Leads (Seq rest)) text from mid led to)
  where
    same : IsLed (Leads (Seq (Then item rest))) text from to ↔ IsLed (After (Leads item) (Leads (Seq rest))) text from to
    same = (
      λ (s, there, leads). (s, there, (then_leads item rest (reached text s) to).0 leads),
      λ (s, there, leads). (s, there, (then_leads item rest (reached text s) to).1 leads),
    )

pub either_one : (x y z : Spot) → Contains (x ∷ y ∷ []) z → (z ≡ x) ⊎ (z ≡ y)
either_one x y z there = elim (contained_cases x z (y ∷ []) there) [ inl same ↦ inl same | inr later ↦ inr (only_contained y z later) ]

module _ (k : ℕ) (body : Tree) (text : List ℕ) (s u : Spot) (ends : List Spot) (place : u.at ≡ s.at)
    (groups : groups_of text u.groups ≡ unset body (groups_of text s.groups)) (led : AreLed (Leads body) text (s ∷ u ∷ []) ends) where
  unset_is : reached text u ≡ unset_at body (reached text s)
  unset_is = λ i. record { rest = drop (place i) text; groups = groups i }

  entered_led : (to : Reached) → Among text ends to ↔ Enters body (reached text s) to
  entered_led to = (forth, back)
    where
      forth : Among text ends to → Enters body (reached text s) to
      forth there =
          let (x, among, leads) = (led to).1 there in
          elim (either_one s u x among) [
            | inl is ↦ inl (subst (λ (y : Spot). Leads body (reached text y) to) is leads)
            | inr is ↦ inr (subst (λ (y : Reached). Leads body y to) (ap (reached text) is ∙ unset_is) leads)
          ]

      back : Enters body (reached text s) to → Among text ends to
      back (inl leads) = (led to).0 (s, first_contained s (u ∷ []), leads)
      back (inr leads) = (led to).0 (u, later_contained s u (u ∷ []) (first_contained u []), subst (λ (y : Reached). Leads body y to) (sym unset_is) leads)

  pub group_between : s.at ≤ length text → AreWithin text ends → (x : Spot) → Contains ends x → IsBetween text s.at x.at
  group_between first within x there = record {
    first = first;
    last = within x there;
    part =
        elim ((entered_led (reached text x)).0 (x, there, refl)) [ inl (w, cut, _) ↦ (w, cut) | inr (w, cut, _) ↦ (w, cut) ];
  }

  pub group_step : (us vs : List Spot) → AddsLed (Closes k (reached text s)) text us ends vs → AddsLed (Leads (Group k body)) text us (s ∷ []) vs
  group_step us vs adds to = (forth, back)
    where
      one : IsLed (Leads (Group k body)) text (s ∷ []) to ↔ Leads (Group k body) (reached text s) to
      one = has_one (λ x. Leads (Group k body) (reached text x) to) s

      forth : Among text vs to → Among text us to ⊎ IsLed (Leads (Group k body)) text (s ∷ []) to
      forth there = elim ((adds to).0 there) [
        | inl old ↦ inl old
        | inr (x, among, closes) ↦
            inr (one.1 ((group_leads k body (reached text s) to).0 (reached text x, (entered_led (reached text x)).0 (x, among, refl), closes)))
      ]

      back : Among text us to ⊎ IsLed (Leads (Group k body)) text (s ∷ []) to → Among text vs to
      back (inl old) = (adds to).1 (inl old)
      back (inr new) =
          let (end, enters, closes) = (group_leads k body (reached text s) to).1 (one.0 new) in
          let (x, among, is) = (entered_led end).1 enters in
          (adds to).1 (inr (x, among, subst (λ (y : Reached). Closes k (reached text s) y to) is closes))

pub repeat_many : (t : Tree) (least : ℕ) (x y : Reached) → After (Steps (Leads t) least) (Many (Leads t)) x y ↔ Leads (Repeat t least None) x y
repeat_many t least x y = (
  λ (between, first, (n, rest)).
      (repeat_leads t least None x y).1 (least + n, omega arith, (steps_added (Leads t) least n x y).1 (between, first, rest)),
  λ leads.
      let (n, within, steps) = (repeat_leads t least None x y).0 leads in
      let whole : n ≡ least + (n - least) = omega arith in
      let (between, first, rest) = (steps_added (Leads t) least (n - least) x y).0 (subst (λ m. Steps (Leads t) m x y) whole steps) in
      (between, first, (n - least, rest)),
)

pub repeat_up_to : (t : Tree) (least most : ℕ) → least ≤ most → (x y : Reached)
    → After (Steps (Leads t) least) (UpTo (Leads t) (most - least)) x y ↔ Leads (Repeat t least (Some most)) x y
repeat_up_to t least most order x y = (
  λ (between, first, (n, few, rest)).
      (repeat_leads t least (Some most) x y).1 (least + n, (omega arith, omega arith), (steps_added (Leads t) least n x y).1 (between, first, rest)),
  λ leads.
      let (n, within, steps) = (repeat_leads t least (Some most) x y).0 leads in
      let enough : least ≤ n = within.0 in
      let few : n ≤ most = within.1 in
      let whole : n ≡ least + (n - least) = omega arith in
      let (between, first, rest) = (steps_added (Leads t) least (n - least) x y).0 (subst (λ m. Steps (Leads t) m x y) whole steps) in
      (between, first, (n - least, omega arith, rest)),
)
