use Rattle.sedck_cert.proofs.Common.{rules, length-decimal-le}
use Rattle.sedck_cert.proofs.writing.put_field.Goals as goal

pub write_digits-requires : goal.write_digits-requires
write_digits-requires c = search (rules, length-decimal-le 5)

pub returns-clause-room : goal.returns-clause-room
returns-clause-room c = search (rules, length-decimal-le 5)
