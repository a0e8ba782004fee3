use Rattle.std.proofs.Common.{ℕ, Vec, Global}
use Rattle.sedck_plain.proofs.PlainLemmas.{same_all, refused_none, reported_none, refused_never, reported_never}
use Rattle.sedck_plain.proofs.plain.plain_text.Goals as goal

pub returns-in-Ok-clause-same : goal.returns-in-Ok-clause-same
returns-in-Ok-clause-same c = same_all _ _ _ c.in-Ok.ensures.spelled c.in-Ok.ensures.only c.plain_of.ensures.spelled c.plain_of.ensures.lists

pub returns-in-Ok-clause-refused : goal.returns-in-Ok-clause-refused
returns-in-Ok-clause-refused c = refused_never _ _ _ c.in-Ok.ensures.spelled c.plain_of.ensures.fault

pub returns-in-Ok-clause-reported : goal.returns-in-Ok-clause-reported
returns-in-Ok-clause-reported c = reported_never _ _ c.plain_of.ensures.fault

pub returns-in-Err-clause-refused : goal.returns-in-Err-clause-refused
returns-in-Err-clause-refused c = refused_none (Vec ℕ Global) _ c.in-Err.fault _ c.unless_memory.ensures c.in-Err.ensures.refused

pub returns-in-Err-clause-reported : goal.returns-in-Err-clause-reported
returns-in-Err-clause-reported c = reported_none (Vec ℕ Global) _ c.in-Err.fault _ c.unless_memory.ensures c.in-Err.ensures.placed
