use Rattle.sedck_commands.proofs.Common.{◌≡◌, ℕ, List, ◌++◌, decimal, append_assoc, fault_words}
use Rattle.std.proofs.Common.{codes}
use Rattle.sedck_expressions.specs.FaultWords.{fault_words as expression_fault_words}
use Rattle.sedck_commands.proofs.fault.ScriptFaultDisplay.fmt.Goals as goal

-- pieces that are written one after another
regroup : (a b c d e f g h : List ℕ) → a ++ b ++ c ++ d ++ (e ++ f) ++ (g ++ h) ≡ a ++ (b ++ (c ++ (d ++ (e ++ (f ++ (g ++ h))))))
regroup a b c d e f g h = simp append_assoc

pub returns-in-BadExpression-clause-writes : goal.returns-in-BadExpression-clause-writes
returns-in-BadExpression-clause-writes g c plain ok =
    let written = c.write.ensures.writes plain ok in
    let same = regroup (codes "fault ") (decimal c.number-number.result) (codes " ") c.name-name.result.now (codes " at ") (decimal c.in-BadExpression.place)
    (codes ": expression ") (expression_fault_words c.in-BadExpression.fault) in
    let words : fault_words c.args.self.now ≡ codes "fault " ++ decimal c.number-number.result ++ codes " " ++ c.name-name.result.now
    ++ (codes " at " ++ decimal c.in-BadExpression.place) ++ (codes ": expression " ++ expression_fault_words c.in-BadExpression.fault)
    = rw (c.number-number.ensures, c.name-name.ensures, c.in-BadExpression.is) in
    rw (words, same) written
