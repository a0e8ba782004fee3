use Rattle.sedck_cert.proofs.Common.{◌/◌}
use Rattle.std.specs.Prelude.{decimal, codes, ◌++◌, ◌%◌}
use Rattle.sedck_cert.proofs.CutLemmas.{behind_both}
use Rattle.sedck_cert.proofs.reading.nodes.behind_words.Goals as goal

pub returns-in_ok-behind_two-in-Two : goal.returns-in_ok-behind_two-in-Two
returns-in_ok-behind_two-in-Two c =
    let i = c.args.index in
    rw c.in-Two.is (behind_both _ (decimal (i / 4) ++ codes " " ++ decimal (i / 2 % 2)) (decimal (i % 2)) _ c.behind_number.result
    c.in_ok-behind_two-in-Two.ensures c.behind_number.ensures)
