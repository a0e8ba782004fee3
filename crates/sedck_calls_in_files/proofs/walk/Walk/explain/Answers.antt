use Rattle.sedck_calls_in_files.proofs.Common.{IfOk, sym, subst, asked_of, TextStatus, ContentsStatus}
use Rattle.sedck_calls_in_files.proofs.walk.Walk.explain.Goals as goal

pub returns-in-Text : goal.returns-in-Text
returns-in-Text g c =
    let found = g.F.Finder.found c.args.self.now.finder.now c.args.path.now in
    let asked = asked_of c.args.self.now.scan.now in
    subst (λ contents. IfOk c.explain_text.result (ContentsStatus found asked contents)) (sym c.in-Text.is)
    (subst (λ text. IfOk c.explain_text.result (TextStatus (found text) asked text)) c.deref.ensures.value c.explain_text.ensures)
