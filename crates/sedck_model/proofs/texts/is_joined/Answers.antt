use Rattle.sedck_model.proofs.Common.{◌∷◌, Some, None, false≢true, newline}
use Rattle.std.proofs.lemmas.Bool.Decides.{Decides-eqb}
use Rattle.std.proofs.lemmas.Slice.Eq.{strip_prefix_is}
use Rattle.sedck_model.proofs.TextLemmas.{behind_front}
use Rattle.sedck_model.proofs.texts.is_joined.Goals as goal

pub returns-in-Some : goal.returns-in-Some
returns-in-Some c =
    behind_front c.args.text.now c.args.front.now c.in-Some.rest.now (newline ∷ c.args.back.now) c.is_behind_newline.result
    (strip_prefix_is Decides-eqb c.args.text.now c.args.front.now (Some c.in-Some.rest) c.in-Some.ensures.cases) c.is_behind_newline.ensures

pub returns-in-None : goal.returns-in-None
returns-in-None c =
    (λ e. absurd (false≢true e), λ h. absurd (strip_prefix_is Decides-eqb c.args.text.now c.args.front.now None c.in-None.ensures.cases (newline ∷ c.args.back.now) h))
