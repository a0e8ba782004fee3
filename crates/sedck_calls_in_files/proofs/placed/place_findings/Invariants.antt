use Rattle.sedck_calls_in_files.proofs.Common.{◌≡◌, All, take, IsFindingIn}
use Rattle.sedck_calls_in_files.specs.Private.Kinds.{kinds_of}
use Rattle.sedck_calls_in_files.proofs.placed.place_findings.Given as goal

-- those so far; and the levels and codes of all
abbrev pub invariant-loop-finding : goal.invariant-loop-finding
invariant-loop-finding l =
    (l.places.file ≡ l.initial.places.file) × All (IsFindingIn l.initial.places.file.now) (take l.finding-index l.finding-items)
    × (kinds_of l.finding-items ≡ kinds_of l.initial.finding-items)
