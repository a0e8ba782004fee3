-- What holds of a certificate's fields.
use Rattle.sedck_cert.specs.Certificate.{Certificate, IsCertificate}
use Rattle.sedck_cert.specs.declared.versions.Version.TheVariants.{One, Two}
use Rattle.sedck_cert.specs.declared.certificate.Parts.{Parts}
use Rattle.sedck_cert.specs.declared.certificate.Cert.TheInside as cert
use Rattle.sedck_cert.specs.declared.version_one.CertOne.TheInside as one
use Rattle.sedck_cert.specs.View.{certificate_of}

abbrev pub with_parts : Parts → Certificate
with_parts parts = certificate_of parts.commands parts.ranks parts.reads parts.writes

abbrev pub shown : cert.Inside → Certificate
shown a = with_parts a.parts

abbrev pub IsGood : cert.Inside → Type 0
IsGood a = IsCertificate Two (shown a)

-- the same for a certificate of version 1
abbrev pub shown_one : one.Inside → Certificate
shown_one a = with_parts a.parts

abbrev pub IsGoodOne : one.Inside → Type 0
IsGoodOne a = IsCertificate One (shown_one a)
