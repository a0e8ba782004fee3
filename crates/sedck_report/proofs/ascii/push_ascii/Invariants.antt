use Rattle.std.specs.Str.{IsAscii}
use Rattle.sedck_report.specs.Ascii.{StaysPrintable}
use Rattle.sedck_report.proofs.ascii.push_ascii.Given as goal

abbrev pub invariant-loop-character : goal.invariant-loop-character
invariant-loop-character l = record {
  ascii : IsAscii l.out.items;
  printable : StaysPrintable l.initial.out.items l.out.items;
}
