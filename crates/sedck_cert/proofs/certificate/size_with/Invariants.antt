use Rattle.sedck_cert.proofs.Common.{◌≡◌, ◌+◌, ◌≤◌, [], drop, names_size, names_of, AreNext, one_before}
use Rattle.std.proofs.Common.{◌↔◌}
use Rattle.sedck_cert.proofs.certificate.size_with.Given as goal

-- all are names where those that are left are, after the one before
abbrev pub invariant-loop-name : goal.invariant-loop-name
invariant-loop-name l =
    (AreNext [] (names_of l.names) l.fn.size ↔ AreNext (one_before l.before) (names_of (drop l.name-index l.names)) l.size)
    × (l.size + names_size (names_of (drop l.name-index l.names)) ≡ l.fn.size + names_size (names_of l.names))
    × (l.size ≤ 1048576)
