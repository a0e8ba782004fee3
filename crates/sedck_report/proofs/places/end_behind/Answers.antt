use Rattle.std.proofs.Common.{◌==◌, ◌≤◌, ℕ, not, refl, drop, arith}
use Rattle.std.specs.List.{prefix_len}
use Rattle.sedck_text.specs.Bytes.{newline}
use Rattle.sedck_report.proofs.Prefixes.{prefix_taken}
use Rattle.sedck_report.proofs.places.end_behind.Goals as goal

pub returns-in-Some : goal.returns-in-Some
returns-in-Some c =
    let is_line = λ (b : ℕ). not (b == newline) in
    let length : c.line_len-length.result ≤ prefix_len is_line (drop c.args.start.offset c.args.text.now) =
    rw (c.line_len-length.ensures.value, ← c.skipped-rest.ensures) (prefix_taken is_line c.min.result c.skipped-rest.result.now) in
    record { behind = omega arith; within = omega (arith, length); line = refl; column = omega arith }
