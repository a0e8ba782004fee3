use Rattle.sedck_c.proofs.Judging.{refused_known}
use Rattle.sedck_c.proofs.certified.ranked.Goals as goal

pub returns-in-Err-clause-refused : goal.returns-in-Err-clause-refused
returns-in-Err-clause-refused c = refused_known c.args.text.now _ c.in-Err.fault c.new-2.ensures.left c.in-Err.ensures.refused
