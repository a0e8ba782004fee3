use Rattle.sedck_cert.proofs.Common.{rules, length-decimal-le}
use Rattle.sedck_cert.proofs.writing.put_ranks.Goals as goal

pub write_digits-start-requires : goal.write_digits-start-requires
write_digits-start-requires c = search (rules, length-decimal-le 5)

pub put_field-requires : goal.put_field-requires
put_field-requires c = search (rules, length-decimal-le 5)

pub returns-clause-room : goal.returns-clause-room
returns-clause-room c = search (rules, length-decimal-le 5)
