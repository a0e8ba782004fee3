-- Texts that `y` makes of one another, place by place.
use Rattle.sedck_model.proofs.Common.{◌≡◌, ℕ, zero, suc, ◌<◌, Bool, true, false, IsTrue, List, [], ◌∷◌, length, get_or, refl, sym, ap, inl, inr, arith, Some, slice_get, false≢true, MayBecome}
use Rattle.std.proofs.Common.{◌↔◌, min}
use Rattle.std.specs.Prelude.{not}
use Rattle.std.proofs.lemmas.Option.{slice_get_cases}
use Rattle.sedck_flow.specs.Run.{IsPartner, Transliterates}

-- where there is an element the place is inside
inside : (xs : List ℕ) (k x : ℕ) → slice_get xs k ≡ Some x → k < length xs
inside xs k x is = elim ((slice_get_cases xs k).1) [ inl h ↦ h.1 | inr h ↦ absurd (let none = h.1 in cc) ]

-- a byte that isn't in the one list where the other one goes on has no partner
pub no_partner : (from to : List ℕ) (b n : ℕ) → n ≡ min (length from) (length to)
    → ((k : ℕ) → k < n → slice_get from k ≡ Some b → ⊥) → (d : ℕ) → IsPartner from to b d → ⊥
no_partner from to b n is none d (k, here, there) =
    let below = inside from k b here in
    let also = inside to k d there in
    none k (omega arith) here

-- a byte that has itself for no partner may stay where it has no partner at all
pub may_stay : (from to : List ℕ) (b c : ℕ) (some : Bool) → IsTrue some ↔ ((d : ℕ) × IsPartner from to b d) → (IsPartner from to b c → ⊥)
    → b ≡ c → IsTrue (not some) ↔ MayBecome from to b c
may_stay from to b c true is alone same = (λ e. absurd (false≢true e), elim [ inl h ↦ absurd (alone h) | inr h ↦ absurd (h.0 (is.0 refl).0 (is.0 refl).1) ])
may_stay from to b c false is alone same = (λ e. inr (λ d h. false≢true (is.1 (d, h)), sym same), λ h. refl)

pub same_length : (from to old new : List ℕ) → Transliterates from to old new → length old ≡ length new
same_length from to [] [] all = refl
same_length from to [] (c ∷ cs) all = absurd all
same_length from to (b ∷ bs) [] all = absurd all
same_length from to (b ∷ bs) (c ∷ cs) all = ap suc (same_length from to bs cs all.1)

pub at_each : (from to old new : List ℕ) → Transliterates from to old new → (k : ℕ) → k < length old
    → MayBecome from to (get_or old k 0) (get_or new k 0)
at_each from to [] [] all k below = absurd (omega (arith, below))
at_each from to [] (c ∷ cs) all k below = absurd all
at_each from to (b ∷ bs) [] all k below = absurd all
at_each from to (b ∷ bs) (c ∷ cs) all zero below = all.0
at_each from to (b ∷ bs) (c ∷ cs) all (suc k) below = at_each from to bs cs all.1 k (omega (arith, below))

pub from_each : (from to old new : List ℕ) → length old ≡ length new
    → ((k : ℕ) → k < length old → MayBecome from to (get_or old k 0) (get_or new k 0)) → Transliterates from to old new
from_each from to [] [] long each = tt
from_each from to [] (c ∷ cs) long each = absurd (omega (arith, long))
from_each from to (b ∷ bs) [] long each = absurd (omega (arith, long))
from_each from to (b ∷ bs) (c ∷ cs) long each =
    (each 0 (omega arith), from_each from to bs cs (omega (arith, long)) (λ k below. each (suc k) (omega (arith, below))))
