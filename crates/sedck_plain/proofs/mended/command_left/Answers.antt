use Rattle.std.proofs.Common.{◌∙◌, Some, sym, arith}
use Rattle.std.proofs.lemmas.Bool.Decides.{Decides-eqb}
use Rattle.std.proofs.lemmas.Slice.{first_rest}
use Rattle.std.proofs.lemmas.Slice.Eq.{strip_prefix_is}
use Rattle.sedck_plain.proofs.MendedLemmas.{command_same, command_passed, command_slash, command_custom}
use Rattle.sedck_plain.proofs.mended.command_left.Goals as goal

pub returns-in-Some : goal.returns-in-Some
returns-in-Some c = c.pieces.invariant c.in-Some.left.now
    (command_same c.pieces.command.now c.pieces.text.now c.in-Some.left.now
    (strip_prefix_is Decides-eqb c.pieces.text.now c.pieces.command.now (Some c.in-Some.left) c.in-Some.ensures.cases))

pub pieces-preserved-then-first-eq92 : goal.pieces-preserved-then-first-eq92
pieces-preserved-then-first-eq92 c = λ rest x.
    c.pieces.invariant rest (command_custom _ _ _ _ _ _ rest (first_rest c.pieces.command.now 0 (omega (arith, c.in-len1-up.len_at_least)))
    c.if-first-eq92.true c.in_ok-command.ensures.part x)

pub pieces-preserved-then-first-eq47 : goal.pieces-preserved-then-first-eq47
pieces-preserved-then-first-eq47 c = λ rest x.
    c.pieces.invariant rest (command_slash _ _ _ _ _ _ _ _ rest (first_rest c.pieces.command.now 0 (omega (arith, c.in-len1-up.len_at_least)))
    (first_rest c.pieces.text.now 0 (omega (arith, c.in-len1-up-text.len_at_least))) c.if-first-same.false c.if-first-eq47.true
    c.in_ok-command-2.ensures.part x)

pub pieces-preserved : goal.pieces-preserved
pieces-preserved c = λ rest x.
    c.pieces.invariant rest (command_passed _ _ _ _ _ _ rest (first_rest c.pieces.command.now 0 (omega (arith, c.in-len1-up.len_at_least)))
    (first_rest c.pieces.text.now 0 (omega (arith, c.in-len1-up-text.len_at_least))) c.if-first-same.false
    (sym c.is_passed.ensures ∙ c.if-not-is_passed.false) x)
