use Rattle.std.proofs.Common.{take}
use Rattle.sedck_formats.specs.Names.{IsPlace}
use Rattle.sedck_formats.proofs.names.Names.place_of.Given as goal

abbrev pub invariant-loop-part : goal.invariant-loop-part
invariant-loop-part l = IsPlace l.self.whole.now (take l.part-index l.self.parts.now) l.fn.position l.place
