use Rattle.std.specs.Prelude.{◌≤◌, decimal}
use Rattle.sedck_cert.proofs.CutLemmas.{read_behind}
use Rattle.sedck_cert.proofs.reading.numbers.count.Goals as goal

pub returns : goal.returns
returns c = read_behind (λ n. n ≤ 4095) decimal _ _ _ c.number.result c.in_ok-behind.ensures c.number.ensures
