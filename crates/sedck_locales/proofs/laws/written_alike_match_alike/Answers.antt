use Rattle.std.proofs.Common.{sym, subst}
use Rattle.std.specs.Prelude.{IsTrue}
use Rattle.sedck_locales.specs.Locales.{MatchIn}
use Rattle.sedck_locales.proofs.WrittenTrees.{written_alike}
use Rattle.sedck_locales.proofs.laws.written_alike_match_alike.Goals as goal

pub returns-clause-tree : goal.returns-clause-tree
returns-clause-tree c = written_alike

pub returns-clause-alike : goal.returns-clause-alike
returns-clause-alike c = λ text other t one two same matches e w e'.
    let tree = written_alike text other t one two same in (
      (λ m. subst (λ x. MatchIn (λ list text. IsTrue (matches list text)) x e w e') tree m),
      (λ m. subst (λ x. MatchIn (λ list text. IsTrue (matches list text)) x e w e') (sym tree) m),
    )
