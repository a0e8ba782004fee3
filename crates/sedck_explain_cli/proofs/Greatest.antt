-- The statuses of several scripts.
use Rattle.sedck_explain_cli.proofs.Common.{◌≡◌, ◌<◌, ◌+◌, ℕ, Bool, true, false, List, map, take, length, get_or, refl, subst, worse, Status, Accepted, Failed, IsWorstOf}
use Rattle.std.proofs.Common.{nat_le, if◌then◌else◌}
use Rattle.sedck_answer.specs.Status.{severity}
use Rattle.sedck_calls_in_files.proofs.Worst.{next_path}

-- one script more
pub worst_item : {X : Type 0} (Has : List ℕ → Status → Type 0) (f : X → List ℕ) (given items : List X) (index : ℕ) (status one : Status) (d : X)
    → given ≡ items → index < length given → IsWorstOf Has Accepted (map f (take index items)) status → Has (f (get_or given index d)) one
    → IsWorstOf Has Accepted (map f (take (index + 1) items)) (worse status one)
worst_item Has f given items index status one d same below is has =
    next_path Has f items index d status one (subst (λ l. index < length l) same below) is (subst (λ l. Has (f (get_or l index d)) one) same has)

-- what holds of both holds of the worse one
pub worse_has : (P : Status → Type 0) (one other : Status) → P one → P other → P (worse one other)
worse_has P one other here there = of_test (nat_le (severity other) (severity one))
  where
    of_test : (b : Bool) → P (if b then one else other)
    of_test true = here
    of_test false = there

-- a failure is the worst
pub failed_stays : (one : Status) → worse Failed one ≡ Failed
failed_stays Accepted = refl
failed_stays _ = refl

-- and a yes least
pub yes_gives_way : (one : Status) → one ≡ worse Accepted one
yes_gives_way Accepted = refl
yes_gives_way _ = refl
