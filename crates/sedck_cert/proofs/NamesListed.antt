-- The names of a script, sorted, are the only sorted list of just the names that its commands name.
use Rattle.sedck_cert.proofs.Common.{◌≡◌, ℕ, ◌+◌, List, [], Contains, Bool, true, false, refl, sym, arith, zero, suc, ◌∷◌, subst, inl, inr, IsTrue, nat_cmp, AreIncreasing, slice_get, flat_map, Contains-append_right, Contains-append_cases, Verb, Command, Program, NamesForReading, NamesForWriting, none-some, slice_cmp, read_names, write_names, sorted_names, reads, writes, Contains-append_left, sorted_names-rise, sorted_names-same, ListsNames}
use Rattle.std.proofs.Common.{◌↔◌}
use Rattle.std.specs.BTreeSet.{BTreeSet, IsOrdered, contains}
use Rattle.std.proofs.lemmas.Cmp.{nat_list_cmp_total}
use Rattle.std.proofs.lemmas.Map.Keys.{sorted_from_all_adjacent}
use Rattle.std.proofs.lemmas.Map.Lookups.{exact_bytes, btree_set_from_contains}
use Rattle.std.proofs.lemmas.Map.Views.{btree_set_contains_iff}
use Rattle.std.specs.Prelude.{Some}

-- ---- Two sorted lists of the same names are one list, as two ordered sets of the library are

abbrev set_of : List (List ℕ) → BTreeSet (List ℕ)
set_of names = record { keys = names }

ordered : (names : List (List ℕ)) → AreIncreasing names → IsOrdered (slice_cmp nat_cmp) (set_of names)
ordered names rising = sorted_from_all_adjacent nat_list_cmp_total names [] (λ k below. rising k (k + 1) [] (omega arith) below)

same_test : (a b : Bool) → (IsTrue a → IsTrue b) → (IsTrue b → IsTrue a) → a ≡ b
same_test true b there back = sym (there refl)
same_test a true there back = back refl
same_test false false there back = refl

pub rising-same : (xs ys : List (List ℕ)) → AreIncreasing xs → AreIncreasing ys → ((x : List ℕ) → Contains xs x ↔ Contains ys x) → xs ≡ ys
rising-same xs ys ra rb same = btree_set_from_contains nat_list_cmp_total (set_of xs) (set_of ys) (ordered xs ra) (ordered ys rb) (λ x.
    let a = btree_set_contains_iff nat_list_cmp_total exact_bytes (set_of xs) x in
    let b = btree_set_contains_iff nat_list_cmp_total exact_bytes (set_of ys) x in
    same_test (contains (slice_cmp nat_cmp) (set_of xs) x) (contains (slice_cmp nat_cmp) (set_of ys) x) (λ h. b.1 ((same x).0 (a.0 h)))
    (λ h. a.1 ((same x).1 (b.0 h)))) exact_bytes

-- ---- The names of a script

module _ (names_of : Verb → List (List ℕ)) where
  -- some command names it
  abbrev IsNamed : List Command → List ℕ → Type 0
  IsNamed cs name = (at : ℕ) × (c : Command) × (slice_get cs at ≡ Some c) × Contains (names_of c.verb) name

  named : (cs : List Command) (name : List ℕ) → Contains (flat_map (λ (c : Command). names_of c.verb) cs) name → IsNamed cs name
  named [] name h = absurd (omega (arith, h.1))
  named (c ∷ cs) name h =
      elim (Contains-append_cases (names_of c.verb) (flat_map (λ (d : Command). names_of d.verb) cs) name h) [
        | inl here ↦ (zero, c, refl, here)
        | inr more ↦ let later = named cs name more in (suc later.0, later.1, later.2, later.3)
      ]

  listed : (cs : List Command) (name : List ℕ) (at : ℕ) (c : Command) → slice_get cs at ≡ Some c → Contains (names_of c.verb) name
      → Contains (flat_map (λ (d : Command). names_of d.verb) cs) name
  listed [] name at c e h = absurd (none-some _ e)
  listed (d ∷ cs) name zero c e h =
      let is : d ≡ c = cc in
      Contains-append_left (names_of d.verb) (flat_map (λ (x : Command). names_of x.verb) cs) name
      (subst (λ (x : Command). Contains (names_of x.verb) name) (sym is) h)
  listed (d ∷ cs) name (suc at) c e h = Contains-append_right (names_of d.verb) (flat_map (λ (x : Command). names_of x.verb) cs) name (listed cs name at c e h)

  pub sorted_listed : (cs : List Command) → ListsNames (sorted_names (flat_map (λ (c : Command). names_of c.verb) cs)) (IsNamed cs)
  sorted_listed cs =
      let all : List (List ℕ) = flat_map (λ (c : Command). names_of c.verb) cs in
      record {
        increasing = sorted_names-rise all;
        same = λ name. (
          λ h. named cs name ((sorted_names-same all name).0 h),
          λ (at, c, e, h). (sorted_names-same all name).1 (listed cs name at c e h),
        );
      }

pub reads_listed : (p : Program) → ListsNames (reads p) (NamesForReading p)
reads_listed p = sorted_listed read_names p.commands

pub writes_listed : (p : Program) → ListsNames (writes p) (NamesForWriting p)
writes_listed p = sorted_listed write_names p.commands

-- a list is such a list exactly where it is the sorted one
pub only_list : (IsNamed : List ℕ → Type 0) (sorted names : List (List ℕ)) → ListsNames sorted IsNamed → (names ≡ sorted) ↔ ListsNames names IsNamed
only_list IsNamed sorted names lists = (
  λ same. subst (λ x. ListsNames x IsNamed) (sym same) lists,
  λ other. rising-same names sorted other.increasing lists.increasing (λ x. (λ h. (lists.same x).1 ((other.same x).0 h), λ h. (other.same x).1 ((lists.same x).0 h))),
)
