-- The worst status, a call after the other.
use Rattle.sedck_calls_in_files.proofs.Common.{◌<◌, ◌+◌, ℕ, List, [], ◌∷◌, ◌++◌, map, length, get_or, take, sym, ap, subst, AskedOfCalls, worse, Status, Accepted, Explanation, FoundCall, IsSaidOfFound, IsWorst, IsWorstOf}
use Rattle.std.proofs.lemmas.List.{take_more, map-append}

-- one call more
worst_snoc : (file : List ℕ) (asked : AskedOfCalls) (known : Status) (calls : List FoundCall) (found : FoundCall) (status : Status) (e : Explanation)
    → IsWorst file asked known calls status → IsSaidOfFound file asked found e
    → IsWorst file asked known (calls ++ found ∷ []) (worse status e.status)
worst_snoc file asked known [] found status e worst said = (e, said, ap (λ s. worse s e.status) worst)
worst_snoc file asked known (first ∷ calls) found status e worst said =
    (worst.0, worst.1, worst_snoc file asked (worse known worst.0.status) calls found status e worst.2 said)

pub next_worst : (file : List ℕ) (asked : AskedOfCalls) (known : Status) (calls : List FoundCall) (i : ℕ) (d : FoundCall) (status : Status) (e : Explanation)
    → i < length calls → IsWorst file asked known (take i calls) status
    → IsSaidOfFound file asked (get_or calls i d) e
    → IsWorst file asked known (take (i + 1) calls) (worse status e.status)
next_worst file asked known calls i d status e within worst said =
    subst (λ front. IsWorst file asked known front (worse status e.status)) (sym (take_more calls i d within))
    (worst_snoc file asked known (take i calls) (get_or calls i d) status e worst said)

-- ---- Paths

-- one path more
worst_path : (Has : List ℕ → Status → Type 0) (known : Status) (front : List (List ℕ)) (path : List ℕ) (status one : Status) → IsWorstOf Has known front status
    → Has path one → IsWorstOf Has known (front ++ path ∷ []) (worse status one)
worst_path Has known [] path status one worst has = (one, has, ap (λ s. worse s one) worst)
worst_path Has known (first ∷ front) path status one worst has =
    (worst.0, worst.1, worst_path Has (worse known worst.0) front path status one worst.2 has)

pub next_path : {X : Type 0} (Has : List ℕ → Status → Type 0) (f : X → List ℕ) (items : List X) (i : ℕ) (d : X) (status one : Status) → i < length items
    → IsWorstOf Has Accepted (map f (take i items)) status → Has (f (get_or items i d)) one
    → IsWorstOf Has Accepted (map f (take (i + 1) items)) (worse status one)
next_path Has f items i d status one within worst has =
    subst (λ front. IsWorstOf Has Accepted (map f front) (worse status one)) (sym (take_more items i d within))
    (subst (λ front. IsWorstOf Has Accepted front (worse status one)) (sym (map-append f (take i items) (get_or items i d ∷ [])))
    (worst_path Has Accepted (map f (take i items)) (f (get_or items i d)) status one worst has))
