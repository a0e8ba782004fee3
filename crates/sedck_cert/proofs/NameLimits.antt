-- Names are within their limits where each may be after those before it.
use Rattle.sedck_cert.proofs.Common.{◌≡◌, ℕ, suc, ◌+◌, ◌<◌, ◌≤◌, List, [], ◌∷◌, length, get_or, drop, Vec, sym, ap, arith, drop-cons, Global, AllByRecursion, length-map, All-from_recursion, recursion_from_All, sum_by-cons, IsName, AreIncreasing, AreNames, names_size, names_of, AreNext, ComesAfter, add-one, IsBefore, all_later}
use Rattle.std.proofs.Common.{map}
use Rattle.std.proofs.lemmas.List.Kept.{AllPairs-cons}

-- the one before, if there is one, is before all of these
abbrev IsBeforeAll : List (List ℕ) → List (List ℕ) → Type 0
IsBeforeAll [] names = Unit {0}
IsBeforeAll (before ∷ more) names = AllByRecursion (IsBefore before) names

behind_all : (before : List (List ℕ)) (name : List ℕ) (names : List (List ℕ)) → ComesAfter before name → AllByRecursion (IsBefore name) names
    → IsBeforeAll before (name ∷ names)
behind_all [] name names e h = tt
behind_all (b ∷ more) name names e h = (e, all_later b name names e h)

rising_parts : (name : List ℕ) (names : List (List ℕ)) → AreIncreasing (name ∷ names) → AllByRecursion (IsBefore name) names × AreIncreasing names
rising_parts name names h = (
  recursion_from_All (IsBefore name) names (λ k d within. h 0 (suc k) d (omega arith) (omega arith)),
  λ i j d low high. h (suc i) (suc j) d (omega arith) (omega arith),
)

first_rises : (before : List (List ℕ)) (name : List ℕ) (names : List (List ℕ)) → IsBeforeAll before (name ∷ names) → ComesAfter before name
first_rises [] name names h = tt
first_rises (b ∷ more) name names h = h.0

record AreRight (before names : List (List ℕ)) (size : ℕ) : Type 0 where
  pub each : AllByRecursion IsName names
  pub behind : IsBeforeAll before names
  pub increasing : AreIncreasing names
  pub within : size + names_size names ≤ 1048576

pub size-cons : (name : List ℕ) (names : List (List ℕ)) (size : ℕ) → size + length name + 1 + names_size names ≡ size + names_size (name ∷ names)
size-cons name names size = omega (arith, sum_by-cons (λ (n : List ℕ). length n + 1) name names)

next_right : (names before : List (List ℕ)) (size : ℕ) → AreNext before names size → AreRight before names size
next_right [] before size h = record {
  each = tt;
  behind = elim before as (λ b. IsBeforeAll b []) [ [] ↦ tt | b ∷ more ↦ tt ];
  increasing = λ i j d low high. absurd (omega arith);
  within = omega arith;
}
next_right (name ∷ names) before size h =
    let more = next_right names (name ∷ []) (size + length name + 1) h.3 in
    record {
      each = (h.0, more.each);
      behind = behind_all before name names h.1 more.behind;
      increasing = AllPairs-cons IsBefore name names (All-from_recursion (IsBefore name) names more.behind) more.increasing;
      within = omega (arith, size-cons name names size, more.within);
    }

right_next : (names before : List (List ℕ)) (size : ℕ) → AreRight before names size → AreNext before names size
right_next [] before size h = omega (arith, h.within)
right_next (name ∷ names) before size h =
    let parts = rising_parts name names h.increasing in (
      h.each.0,
      first_rises before name names h.behind,
      omega (arith, size-cons name names size, h.within),
      right_next names (name ∷ []) (size + length name + 1)
          (record { each = h.each.1; behind = parts.0; increasing = parts.1; within = omega (arith, size-cons name names size, h.within) }),
    )

pub names_next : (names : List (List ℕ)) (size : ℕ) → AreNames names → size + names_size names ≤ 1048576 → AreNext [] names size
names_next names size h small = right_next names [] size
    (record { each = recursion_from_All IsName names h.each; behind = tt; increasing = h.increasing; within = small })

pub next_names : (names : List (List ℕ)) (size : ℕ) → length names ≤ 4095 → AreNext [] names size → AreNames names × (size + names_size names ≤ 1048576)
next_names names size few h =
    let right = next_right names [] size h in
    (record { each = All-from_recursion IsName names right.each; increasing = right.increasing; count = few }, right.within)

pub names-few : (names : List (Vec ℕ Global)) → length names ≤ 4095 → length (names_of names) ≤ 4095
names-few names few = let e = length-map names (λ (n : Vec ℕ Global). n.items) in omega arith

pub left_cons : {A : Type 0} (items : A → List ℕ) (names : List A) (i : ℕ) (name : A) → i < length names → name ≡ get_or names i name
    → map items (drop i names) ≡ items name ∷ map items (drop (i + 1) names)
left_cons items names i name within is = rw (add-one, drop-cons names i name within) (ap (λ n. items n ∷ map items (drop (suc i) names)) (sym is))
