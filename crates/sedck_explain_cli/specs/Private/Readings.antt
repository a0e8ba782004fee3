-- What the reader has read.
use Rattle.std.specs.Prelude.{map, option_map}
use Rattle.sedck_explain_cli.specs.Readings.{Awaited, AnyWord, ItsCertificate, ItsDenied, ItsAllowed, ItsLocale, ItsFormat, OtherValue, OnlyPaths, Asked}
use Rattle.sedck_explain_cli.specs.declared.reading.Reading.{Reading}
use Rattle.sedck_explain_cli.specs.declared.reading.Next.{Next}
use Rattle.sedck_explain_cli.specs.declared.reading.Next.TheVariants as next

abbrev pub awaited_of : Next → Awaited
awaited_of next.Any = AnyWord
awaited_of next.Certificate = ItsCertificate
awaited_of next.Denied = ItsDenied
awaited_of next.Allowed = ItsAllowed
awaited_of next.Locale = ItsLocale
awaited_of next.Format = ItsFormat
awaited_of next.Other = OtherValue
awaited_of next.Path = OnlyPaths

abbrev pub asked_of : Reading → Asked
asked_of r = record {
  certificate = option_map (λ path. path.now) r.certificate;
  denied = map (λ names. names.now) r.denied.items;
  allowed = map (λ names. names.now) r.allowed.items;
  locale = option_map (λ name. name.now) r.locale;
  format = option_map (λ name. name.now) r.format;
  sed = r.sed;
  calls = r.calls;
  mends = r.mends;
  paths = map (λ path. path.now) r.paths.items;
  next = awaited_of r.next;
}
