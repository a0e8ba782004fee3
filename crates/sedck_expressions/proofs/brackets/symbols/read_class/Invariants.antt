use Rattle.sedck_expressions.proofs.Common.{◌≡◌, map, drop, classes, class_from, class_of}
use Rattle.sedck_expressions.proofs.brackets.symbols.read_class.Given as goal

abbrev pub invariant-classes : goal.invariant-classes
invariant-classes l = class_from (map class_of (drop l.class-index l.class-items)) (drop 2 l.text) ≡ class_from classes (drop 2 l.text)
