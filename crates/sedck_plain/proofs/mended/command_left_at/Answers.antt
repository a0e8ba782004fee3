use Rattle.std.proofs.Common.{◌∙◌, ◌++◌, Some, ap, subst}
use Rattle.std.proofs.lemmas.Bool.Decides.{Decides-eqb}
use Rattle.std.proofs.lemmas.Option.{IfSome_then}
use Rattle.std.proofs.lemmas.Slice.Eq.{strip_prefix_is}
use Rattle.sedck_plain.specs.Mended.{IsCommandGiven}
use Rattle.sedck_plain.proofs.mended.command_left_at.Goals as goal

pub returns : goal.returns
returns c =
    let begin = c.in_ok-begin.begin.now in
    let cut = strip_prefix_is Decides-eqb c.args.text.now c.in_ok-before.before.now (Some c.in_ok-begin.begin) c.in_ok-begin.ensures.cases in
    IfSome_then c.command_left.result c.command_left.ensures (λ left x.
    (begin, cut ∙ ap (λ t. t ++ begin) c.in_ok-before.ensures.lookup.0.2, subst (λ t. IsCommandGiven t begin left.now) c.in_ok-command.ensures.lookup.0.2 x))
