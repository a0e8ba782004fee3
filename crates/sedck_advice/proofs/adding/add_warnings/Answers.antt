use Rattle.sedck_advice.proofs.Added.{others_trans, ok_others}
use Rattle.sedck_advice.proofs.adding.add_warnings.Goals as goal

pub returns : goal.returns
returns c =
    ok_others _ _ _ c.push_looks-3.result
    (others_trans _ _ _ (others_trans _ _ _ (others_trans _ _ _ c.in_ok-push_looks.ensures c.in_ok-push_looks-2.ensures) c.in_ok-name_warnings.ensures)
    c.in_ok-unknown_warnings.ensures) c.push_looks-3.ensures
