use Rattle.std.proofs.Common.{◌∙◌, ◌∷◌, sym, arith}
use Rattle.std.proofs.lemmas.Bool.Decides.{Decides-eqb}
use Rattle.std.proofs.lemmas.Slice.{first_rest}
use Rattle.std.proofs.lemmas.Slice.Eq.{strip_prefix_is}
use Rattle.sedck_plain.specs.Mended.{IsCommandGiven}
use Rattle.sedck_plain.proofs.CutLemmas.{second_rest}
use Rattle.sedck_plain.proofs.MendedLemmas.{some_stripped, command_substitute}
use Rattle.sedck_plain.proofs.mended.substitution_left.Goals as goal

pub returns : goal.returns
returns c =
    let part = first_rest c.args.part.now 0 (omega (arith, c.in-len1-up.len_at_least)) in
    let text = second_rest c.args.text.now c.in-len2-up.len_at_least in
    some_stripped _ _ c.strip_prefix.result (λ left. IsCommandGiven (115 ∷ c.args.part.now) c.args.text.now left.now)
    (strip_prefix_is Decides-eqb _ _ c.strip_prefix.result c.strip_prefix.ensures.cases)
    (λ left is. command_substitute _ _ _ _ _ _ _ _ _ _ _ left.now part text c.if-sign-ne115.false (sym c.is_exchanged.ensures ∙ c.if-not-is_exchanged.false)
    c.in_ok-replacement.ensures.part c.in_ok-flags.ensures.part is)
