use Rattle.sedck_cert.proofs.EitherVersion.{says_by_test}
use Rattle.sedck_cert.proofs.reading.says_version_one.Goals as goal

pub returns : goal.returns
returns c = says_by_test c.args.text.now c.next_is.result _ _ c.new.ensures.rest (rw c.header.ensures at c.next_is.ensures.same)
    (rw c.header.ensures at c.next_is.ensures.other)
