use Rattle.sedck_model.proofs.Common.{Decides-at, bytes_eq-Decides}
use Rattle.sedck_model.proofs.TextLemmas.{same_lines-decides}
use Rattle.sedck_model.proofs.texts.same_lines.Goals as goal

pub returns : goal.returns
returns c = Decides-at _ _ c.eq.ensures (same_lines-decides _ (λ a b. bytes_eq-Decides a.now b.now) c.args.one.now c.args.other.now)
