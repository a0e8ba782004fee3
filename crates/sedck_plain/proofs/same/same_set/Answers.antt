use Rattle.std.proofs.Common.{◌≡◌, true, subst}
use Rattle.std.specs.Prelude.{◌↔◌}
use Rattle.sedck_expressions.specs.View.{bytes_in}
use Rattle.sedck_plain.proofs.SetLemmas.{sets_decided}
use Rattle.sedck_plain.proofs.same.same_set.Goals as goal

pub returns : goal.returns
returns c =
    subst (λ v. (c.eq.result ≡ true) ↔ (bytes_in v ≡ bytes_in c.args.other.0)) c.words_of.ensures.same
    (subst (λ w. (c.eq.result ≡ true) ↔ (bytes_in c.words_of.result ≡ bytes_in w)) c.words_of-2.ensures.same
    (sets_decided _ _ _ c.words_of.ensures.words c.words_of-2.ensures.words c.eq.ensures))
