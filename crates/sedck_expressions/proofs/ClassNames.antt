-- The search for a class by its name, class by class.
use Rattle.sedck_expressions.proofs.Common.{◌≡◌, ℕ, suc, ◌+◌, ◌<◌, Bool, cond, List, ◌∷◌, length, drop, get_or, map, Option, Some, None, refl, ◌∙◌, arith, length-append, nat_eq, codes, starts_with, Element, Members, class_from, class_of, add-one, drop-cons, closed_name, behind_name}
use Rattle.sedck_expressions.specs.declared.brackets.elements.Class.{Class}

abbrev class_or : List ℕ × (ℕ → Bool) → Option (Element × List ℕ) → Option (List ℕ) → Option (Element × List ℕ)
class_or class others None = others
class_or class others (Some rest) = Some (Members class, rest)

-- one class before others
class_step : (class : List ℕ × (ℕ → Bool)) (cs : List (List ℕ × (ℕ → Bool))) (text : List ℕ)
    → class_from (class ∷ cs) text ≡ class_or class (class_from cs text) (behind_name class text)
class_step class cs text = rw (← length-append class.0 (codes ":]")) (go (starts_with nat_eq text (closed_name class)))
  where
    go : (b : Bool) → cond b (Some (Members class, drop (length (closed_name class)) text)) (class_from cs text) ≡ class_or class (class_from cs text)
        (cond b (Some (drop (length (closed_name class)) text)) None)
    go b = grind arith

class_at : (items : List Class) (d : Class) (i : ℕ) (text : List ℕ) → i < length items
    → class_from (map class_of (drop i items)) text
    ≡ class_or (class_of (get_or items i d)) (class_from (map class_of (drop (i + 1) items)) text) (behind_name (class_of (get_or items i d)) text)
class_at items d i text l = rw (add-one, drop-cons items i d) (class_step (class_of (get_or items i d)) (map class_of (drop (suc i) items)) text)

pub class_skips : (items : List Class) (d : Class) (i : ℕ) (text : List ℕ) → i < length items → behind_name (class_of (get_or items i d)) text ≡ None
    → class_from (map class_of (drop i items)) text ≡ class_from (map class_of (drop (i + 1) items)) text
class_skips items d i text l h = class_at items d i text l ∙ rw h refl

pub class_found : (items : List Class) (d : Class) (i : ℕ) (text rest : List ℕ) → i < length items → behind_name (class_of (get_or items i d)) text ≡ Some rest
    → class_from (map class_of (drop i items)) text ≡ Some (Members (class_of (get_or items i d)), rest)
class_found items d i text rest l h = class_at items d i text l ∙ rw h refl
