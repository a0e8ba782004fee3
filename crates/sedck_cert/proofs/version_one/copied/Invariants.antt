use Rattle.sedck_cert.proofs.Common.{◌≡◌, take, names_of}
use Rattle.sedck_cert.proofs.version_one.copied.Given as goal

-- the names so far
abbrev pub invariant-loop-name : goal.invariant-loop-name
invariant-loop-name l = names_of l.copies.items ≡ names_of (take l.name-index l.names)
