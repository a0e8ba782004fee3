use Rattle.sedck_cert.proofs.Common.{◌≡◌, ℕ, ◌+◌, ◌-◌, ◌≤◌, ◌++◌, ◌∷◌, length, decimal, names_of, Names, list_word, names_due, Version, Leads, one_before}
use Rattle.sedck_cert.proofs.reading.names.names.Given as goal

-- the names so far
abbrev pub invariant-loop-before : goal.invariant-loop-before
invariant-loop-before l =
    ((v : Version) (left : ℕ) → length l.names.items + left ≡ l.count
    → Leads v (Names l.fn.files l.fn.size) l.fn.lines ((list_word l.fn.files ++ decimal l.count) ∷ names_of l.names.items) l.lines
    (names_due l.fn.files left (one_before l.before) l.size))
    × (length l.names.items ≤ l.count)
    × (l.size ≤ 1048576)

abbrev pub decreases-loop-before : goal.decreases-loop-before
decreases-loop-before l = l.count - length l.names.items
