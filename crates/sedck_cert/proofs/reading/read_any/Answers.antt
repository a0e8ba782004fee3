use Rattle.sedck_cert.proofs.Common.{inr, refl, if_err_from}
use Rattle.sedck_cert.proofs.EitherVersion.{IsRefusedInAny, spelled_one, refused_one, two_only, two_refused}
use Rattle.sedck_cert.proofs.reading.read_any.Goals as goal

pub returns-then-not-says_version_one-clause-only : goal.returns-then-not-says_version_one-clause-only
returns-then-not-says_version_one-clause-only c = two_only c.args.text.now c.read_cert.result c.read_cert.ensures.read

pub returns-then-not-says_version_one-clause-refused : goal.returns-then-not-says_version_one-clause-refused
returns-then-not-says_version_one-clause-refused c =
    two_refused c.args.text.now c.read_cert.result (λ says. let yes = c.if-not-says_version_one.ensures.1 says in let no = c.if-not-says_version_one.true in cc)
    c.read_cert.ensures.refused

pub returns-in_err-one-clause-refused : goal.returns-in_err-one-clause-refused
returns-in_err-one-clause-refused c =
    if_err_from (IsRefusedInAny c.args.text.now) c.from_residual.result _ c.from_residual.ensures.1
    (refused_one c.args.text.now _ (c.if-not-says_version_one.ensures.0 refl) c.in_err-one.ensures.refused)

pub returns-clause-only : goal.returns-clause-only
returns-clause-only c other spells =
    spelled_one c.args.text.now _ other (inr (c.in_ok-one.one, c.in_ok-one.ensures.read, c.in_ok-upgrade.ensures)) spells
