use Rattle.sedck_cert.proofs.Common.{◌≡◌, ℕ, ◌<◌, [], get_or, map, names_of}
use Rattle.sedck_cert.proofs.checking.are_names.Given as goal

-- the names so far agree
abbrev pub invariant-loop-index : goal.invariant-loop-index
invariant-loop-index l = (k : ℕ) → k < l.index → get_or (names_of l.listed) k [] ≡ get_or (map (λ name. name.now) l.names) k []
