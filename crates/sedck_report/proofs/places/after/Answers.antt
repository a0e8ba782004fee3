use Rattle.std.proofs.Common.{◌+◌, ◌++◌, ◌∷◌, [], sym, ap, ◌∙◌}
use Rattle.std.proofs.lemmas.Bool.{ne_eqb}
use Rattle.sedck_report.specs.Positions.{position_after}
use Rattle.sedck_report.proofs.After.{made, after_newline, after_other}
use Rattle.sedck_report.proofs.places.after.Goals as goal

pub returns-then-byte-eq10 : goal.returns-then-byte-eq10
returns-then-byte-eq10 c = λ before same.
    ap (λ p. made (p.offset + 1) (p.line + 1) 1) same ∙ after_newline before
    ∙ sym (ap (λ b. position_after (before ++ (b ∷ []))) c.if-byte-eq10.true)

pub returns : goal.returns
returns c = λ before same.
    ap (λ p. made (p.offset + 1) p.line (p.column + 1)) same
    ∙ after_other before c.args.byte (ne_eqb c.args.byte 10 c.if-byte-eq10.false)
