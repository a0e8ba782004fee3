-- Which certificate a text spells in either version, and the fault of one that spells none.
use Rattle.std.specs.Prelude.{◌≡◌, ◌⊎◌, ℕ, List, ◌++◌}
use Rattle.sedck_cert.specs.Certificate.{Certificate}
use Rattle.sedck_cert.specs.Text.{line, header, IsTextOf}
use Rattle.sedck_cert.specs.VersionOne.{upgraded}
use Rattle.sedck_cert.specs.Faults.{IsFaultOf}
use Rattle.sedck_cert.specs.declared.versions.Version.{Version}
use Rattle.sedck_cert.specs.declared.versions.Version.TheVariants.{One, Two}
use Rattle.sedck_cert.specs.declared.reading.CertFault.{CertFault}

-- the bytes are the certificate's text, or the text of version 1 of a certificate that is upgraded to this one
abbrev pub SpellsCertificate : List ℕ → Certificate → Type 0
SpellsCertificate bytes c = IsTextOf Two bytes c ⊎ ((earlier : Certificate) × IsTextOf One bytes earlier × (c ≡ upgraded earlier))

-- its first line is that of version 1
abbrev pub SaysVersionOne : List ℕ → Type 0
SaysVersionOne text = (rest : List ℕ) × (text ≡ line (header One) ++ rest)

-- by which version's rules a text is read: those of version 1 where the text says so, else those of version 2
abbrev pub IsReadBy : Version → List ℕ → Type 0
IsReadBy One text = SaysVersionOne text
IsReadBy Two text = ¬ SaysVersionOne text

-- the fault of a text that spells no certificate
abbrev pub IsFaultIn : List ℕ → CertFault → Type 0
IsFaultIn text fault = (v : Version) × IsReadBy v text × IsFaultOf v text fault
