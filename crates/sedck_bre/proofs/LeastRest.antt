-- The least length outside of groups that are items: no match has less, and a shortest match has it.
use Rattle.sedck_bre.proofs.Common.{◌≡◌, min, ℕ, ◌+◌, ◌<◌, ◌≤◌, Bool, List, [], length, inl, refl, ap, subst, ◌∙◌, arith, length-append, unwrap_or, nat_tests, Tree, Trees, Group, Seq, Nil, Then, groups_in, groups_in_all, Groups, no_groups, text_of, with_text, WideMatch, WideMatchAll, IsWellFormed, texts_length, HasRest, IsLeastRest, Bounds, no_bounds, least, after, least_all, after_all, CountsFrom, cap, IsLeastSize, CountsFrom-left, CountsFrom-right, beside_row, are_numbered, ◌-◌, Some, own_beside, outside_picked}
use Rattle.sedck_bre.proofs.MatchIsWide.{widens}
use Rattle.sedck_bre.proofs.LeastLemmas.{FreshFrom, after-fresh, after_all-below, with_bound-same}
use Rattle.sedck_bre.proofs.LeastFloor.{Reaches, floor, floor_all, wide-floor}
use Rattle.sedck_bre.proofs.LeastReached.{least-met}
use Rattle.sedck_bre.proofs.UntouchedGroups.{all_leave}
use Rattle.sedck_bre.proofs.NamedSums.{item_sum, items_sum, items_sum-grows}

-- how long each group's text is
abbrev pub lengths : Groups → ℕ → ℕ
lengths e k = length (text_of e k)

-- the text of a group that is an item is what the item matched
own_floor : (picked : ℕ → Bool) (known : Bounds) (t : Tree) (n : ℕ) (e d e' : Groups) (u : List ℕ) → CountsFrom n (groups_in t) → least known t ≤ length u
    → WideMatch t e u d → ((k : ℕ) → k < n + length (groups_in t) → e' k ≡ d k) → own_beside picked known t + item_sum picked (lengths e') t ≤ length u
own_floor picked known (Group k body) n e d e' u h low m same =
    let put : with_text m.1 k u k ≡ Some u = grind (arith, nat_tests) in
    let text : text_of e' k ≡ u = ap (λ o. unwrap_or o []) (same k (omega (arith, h.0)) ∙ ap (λ (g : Groups). g k) m.4 ∙ put) in
    grind (arith, ap length text)
own_floor picked known t n e d e' u h low m same = omega (arith, low)

-- no match has less outside
pub outside-floor : (picked : ℕ → Bool) (ts : Trees) (n : ℕ) (known : Bounds) → CountsFrom n (groups_in_all ts) → FreshFrom n known
    → (e e' : Groups) (w : List ℕ) → Reaches known e → WideMatchAll ts e w e' → outside_picked picked known ts + items_sum picked (lengths e') ts ≤ length w
outside-floor picked Nil n known h f e e' w r m = omega arith
outside-floor picked (Then t ts) n known h f e e' w r (u, v, d, cut, one, others) =
    let numbered = CountsFrom-left n (groups_in t) (groups_in_all ts) h in
    let more = CountsFrom-right n (groups_in t) (groups_in_all ts) h in
    let first = floor t n known numbered f e d u r one in
    let beside = λ (k : ℕ) (l : k < n + length (groups_in t)).
    all_leave ts k (beside_row (n + length (groups_in t)) k (groups_in_all ts) more (inl l)) d v e' others in
    let mine = own_floor picked known t n e d e' u numbered first.0 one beside in
    let rest = outside-floor picked ts (n + length (groups_in t)) (after known t) more (after-fresh t n known numbered f) d e' v first.1 others in
    omega (arith, ap length cut, length-append u v, mine, rest)

own-split : (picked : ℕ → Bool) (known final : Bounds) (t : Tree) (n : ℕ) → CountsFrom n (groups_in t)
    → ((k : ℕ) → k < n + length (groups_in t) → final k ≡ after known t k) → least known t ≡ own_beside picked known t + item_sum picked final t
own-split picked known final (Group k body) n h settled =
    grind (arith, settled k (omega (arith, h.0)) ∙ with_bound-same (after known body) k (least known body))
own-split picked known final t n h settled = omega arith

-- the least length is what is outside, and the least lengths of the named groups
pub outside-split : (picked : ℕ → Bool) (ts : Trees) (n : ℕ) (known : Bounds) → CountsFrom n (groups_in_all ts)
    → least_all known ts ≡ outside_picked picked known ts + items_sum picked (after_all known ts) ts
outside-split picked Nil n known h = refl
outside-split picked (Then t ts) n known h =
    let more = CountsFrom-right n (groups_in t) (groups_in_all ts) h in
    let mine = own-split picked known (after_all (after known t) ts) t n (CountsFrom-left n (groups_in t) (groups_in_all ts) h)
    (λ k l. after_all-below ts (n + length (groups_in t)) (after known t) k more l) in
    omega (arith, mine, outside-split picked ts (n + length (groups_in t)) (after known t) more)

-- no wide match has a smaller rest, and some match has this one
abbrev pub HasWideFloor : Tree → List ℕ → ℕ → Type 0
HasWideFloor t groups n = ((w : List ℕ) (e : Groups) → WideMatch t no_groups w e → n + texts_length e groups ≤ length w) × HasRest t groups n

-- outside of groups whose texts are those of the items that are picked: a shortest match has the least rest, since each text is as long as it is at least
pub items_rest : (picked : ℕ → Bool) (ts : Trees) (groups : List ℕ) → IsWellFormed (Seq ts)
    → ((e : Groups) → texts_length e groups ≡ items_sum picked (lengths e) ts) → HasWideFloor (Seq ts) groups (outside_picked picked no_bounds ts)
items_rest picked ts groups f texts =
    let numbered = are_numbered (Seq ts) f in
    let low = λ (w : List ℕ) (e : Groups) (m : WideMatch (Seq ts) no_groups w e).
    outside-floor picked ts 1 no_bounds numbered (λ k l. refl) no_groups e w (λ k. omega arith) m in
    let (w, (e, m), short) = least-met (Seq ts) f in
    let wide = widens (Seq ts) no_groups w e m in
    let long = (floor_all ts 1 no_bounds numbered (λ k l. refl) no_groups e w (λ k. omega arith) wide).1 in
    let more = items_sum-grows picked (after_all no_bounds ts) (lengths e) ts long in
    (λ w e m. omega (arith, low w e m, texts e), (w, e, m, omega (arith, short, low w e wide, outside-split picked ts 1 no_bounds numbered, more, texts e)))

-- outside of groups that have no text, the rest is the length
pub whole_rest : (t : Tree) (groups : List ℕ) → IsWellFormed t → ((e : Groups) → texts_length e groups ≡ 0) → HasWideFloor t groups (least no_bounds t)
whole_rest t groups f none =
    let (w, (e, m), short) = least-met t f in
    (λ w e m. omega (arith, wide-floor t w e (are_numbered t f) m, none e), (w, e, m, omega (arith, short, none e)))

pub least-rest : (t : Tree) (groups : List ℕ) (n : ℕ) → HasWideFloor t groups n → IsLeastRest t groups n
least-rest t groups n (low, met) = record {
  floor = λ w e m. let fits = low w e (widens t no_groups w e m) in (length w - texts_length e groups, omega (arith, fits), omega (arith, fits));
  met = met;
}

-- the least number that the code finds
pub least-size : (t : Tree) (groups : List ℕ) (least n : ℕ) → HasWideFloor t groups least → n ≡ min least cap → IsLeastSize (HasRest t groups) n
least-size t groups least n (low, met) found = record {
  floor = λ m (w, e, matches, rest). omega (arith, low w e (widens t no_groups w e matches), rest, found);
  met = λ l. let same : least ≡ n = omega (arith, found, l) in subst (HasRest t groups) same met;
  capped = omega (arith, found);
}
