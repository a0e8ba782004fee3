use Rattle.std.specs.Str.{IsAscii}
use Rattle.sedck_report.specs.Ascii.{StaysPrintable}
use Rattle.sedck_report.proofs.ascii.push_character.Given as goal

abbrev pub invariant-loop-unit : goal.invariant-loop-unit
invariant-loop-unit l = record {
  ascii : IsAscii l.out.items;
  printable : StaysPrintable l.initial.out.items l.out.items;
}
