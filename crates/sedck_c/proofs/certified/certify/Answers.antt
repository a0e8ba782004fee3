use Rattle.sedck_cert.proofs.Promise.{script_reported}
use Rattle.sedck_c.proofs.Judging.{refused_as}
use Rattle.sedck_c.proofs.certified.certify.Goals as goal

pub returns-in-Err-clause-refused : goal.returns-in-Err-clause-refused
returns-in-Err-clause-refused c =
    let parsed = c.in-Err.ensures in
    refused_as c.args.text.now c.in-Err.why parsed.refused (script_reported c.args.text.now c.in-Err.why parsed.first parsed.placed parsed.too_long parsed.zero)
