-- Elements that are written one after another, or put among others; results of which two things are known.
use Rattle.std.proofs.Common.{◌≡◌, ◌<◌, ◌+◌, ℕ, List, ◌++◌, length, take, drop, slice_set, All, Result, Ok, Err, IfOk, sym, subst}
use Rattle.std.proofs.lemmas.List.{take_more_set}
use Rattle.std.proofs.lemmas.List.Elements.{All-push, All-append, All-take, All-drop}

pub all_more_set : {X : Type 0} (P : X → Type 0) (xs : List X) (i : ℕ) (y : X) → i < length xs → All P (take i xs) → P y
    → All P (take (i + 1) (slice_set xs i y))
all_more_set P xs i y within all is = subst (All P) (sym (take_more_set xs i y within)) (All-push P (take i xs) y all is)

-- a list that is put into another one
pub all_between : {X : Type 0} (P : X → Type 0) (xs ys front back whole : List X) (n : ℕ) → front ≡ take n xs → back ≡ drop n xs → whole ≡ front ++ ys ++ back
    → All P xs → All P ys → All P whole
all_between P xs ys front back whole n is_front is_back is all more =
    subst (All P) (sym is) (All-append P (front ++ ys) back
    (All-append P front ys (subst (All P) (sym is_front) (All-take P n xs all)) more)
    (subst (All P) (sym is_back) (All-drop P n xs all)))

pub if_ok_both : {T E : Type 0} (P Q R : T → Type 0) (r : Result T E) → ((v : T) → P v → Q v → R v) → IfOk r P → IfOk r Q → IfOk r R
if_ok_both P Q R (Ok v) follows p q = follows v p q
if_ok_both P Q R (Err e) follows p q = tt
