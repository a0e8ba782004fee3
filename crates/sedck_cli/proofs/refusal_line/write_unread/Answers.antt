use Rattle.sedck_cli.proofs.refusal_line.write_unread.Goals as goal

pub returns-in-Script-clause-written : goal.returns-in-Script-clause-written
returns-in-Script-clause-written g c = rw c.in-Script.is c.write_all.ensures.written

pub returns-in-Certificate-clause-written : goal.returns-in-Certificate-clause-written
returns-in-Certificate-clause-written g c = rw c.in-Certificate.is c.write_all-in-Certificate.ensures.written
