use Rattle.sedck_report.proofs.ascii.push_unit.Goals as goal

-- six bytes, each of them printable
pub returns-clause-printable : goal.returns-clause-printable
returns-clause-printable c = λ before.
    c.in_ok-push_printable-6.ensures.printable (c.in_ok-push_printable-5.ensures.printable (c.in_ok-push_printable-4.ensures.printable
    (c.in_ok-push_printable-3.ensures.printable (c.in_ok-push_printable-2.ensures.printable (c.in_ok-push_printable.ensures.printable before)))))
