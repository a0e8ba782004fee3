use Rattle.sedck_cert.proofs.Common.{◌≡◌, true, false, refl, Name, one_before}
use Rattle.sedck_cert.proofs.LineLemmas.{wrong_none, stops_here}
use Rattle.sedck_cert.proofs.DueLines.{wrong_name}
use Rattle.sedck_cert.proofs.reading.names.name_line.Goals as goal

pub returns-in_default-clause-refused : goal.returns-in_default-clause-refused
returns-in_default-clause-refused c v files left =
    stops_here v (Name files left (one_before c.args.before) c.args.size) _ _
    (wrong_none v (Name files left (one_before c.args.before) c.args.size) _ c.in_default.ensures.text) refl

pub returns-else-is_next_name-clause-refused : goal.returns-else-is_next_name-clause-refused
returns-else-is_next_name-clause-refused c v files left =
    stops_here v (Name files left (one_before c.args.before) c.args.size) _ _
    (wrong_name v files left (one_before c.args.before) c.args.size _ c.in-Some.name.now _ c.in-Some.ensures.text
    (λ h. let no : false ≡ true = c.if-is_next_name.ensures.1 h in cc)) refl
