use Rattle.sedck_cert.proofs.Written.{on_ok_then, appends_join}
use Rattle.sedck_calls_in_files.proofs.errors.write_named.Goals as goal

pub returns-clause-written : goal.returns-clause-written
returns-clause-written g c = on_ok_then c.write_all-2.result _ _ c.write_all-2.ensures.written
    (λ last. appends_join _ _ _ _ _ c.in_ok-write_all.ensures.written last)
