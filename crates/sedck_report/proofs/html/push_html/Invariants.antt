use Rattle.std.proofs.Common.{◌≡◌, ◌++◌, take}
use Rattle.sedck_report.specs.Html.{html_text}
use Rattle.sedck_report.proofs.html.push_html.Given as goal

-- the bytes so far were added
abbrev pub invariant-loop-byte : goal.invariant-loop-byte
invariant-loop-byte l = l.out.items ≡ l.initial.out.items ++ html_text (take l.byte-index l.words)
