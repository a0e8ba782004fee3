-- A line's number is at most one more than the offset.
use Rattle.std.proofs.Common.{◌==◌, ◌+◌, ◌≤◌, ℕ, List, length, arith}
use Rattle.std.proofs.lemmas.List.Sums.{length-filter, count_by-le-length}
use Rattle.sedck_text.specs.Bytes.{newline}
use Rattle.sedck_report.specs.Positions.{line_after}

pub line_within : (text : List ℕ) → line_after text ≤ length text + 1
line_within text =
    let counted = count_by-le-length (λ b. b == newline) text in
    let same = length-filter (λ b. b == newline) text in
    omega (arith, counted, same)
