use Rattle.sedck_search.proofs.Common.{◌≡◌, length, sym, ap, ◌∙◌, subst, arith, true≢false, length-map, command_of, Accepts, certificate_of}
use Rattle.sedck_search.proofs.Ranks.{counts_certificate, counts_accepted}
use Rattle.sedck_search.proofs.searching.certificate.Goals as goal

-- the parts are within the limits
pub unreachable-requires : goal.unreachable-requires
unreachable-requires c =
    let count : length c.commands.result.now ≡ length c.args.script.now.commands = sym (length-map c.commands.result.now command_of)
    ∙ ap length c.commands.ensures.commands in
    absurd (true≢false (sym (c.in-None.ensures.within.1
    (counts_certificate c.args.script.now c.commands.ensures.script c.args.firsts.now c.args.seconds.now c.requires.firsts c.requires.seconds
    (certificate_of (length c.commands.result.now) c.in_ok-ranks.ranks c.in_ok-reads.reads c.in_ok-writes.writes) c.in_ok-ranks.ensures
    (λ i. omega (arith, c.type_inv.firsts i)) (λ i. omega (arith, c.type_inv.seconds i)) count (c.in_ok-reads.ensures ∙ c.reads.ensures)
    (c.in_ok-writes.ensures ∙ c.writes.ensures)))))

pub returns : goal.returns
returns c =
    let count : length c.commands.result.now ≡ length c.args.script.now.commands = sym (length-map c.commands.result.now command_of)
    ∙ ap length c.commands.ensures.commands in
    subst (Accepts c.args.script.now) (sym c.in-Some.ensures.same)
    (counts_accepted c.args.script.now c.commands.ensures.script c.args.firsts.now c.args.seconds.now c.requires.firsts c.requires.seconds
    (certificate_of (length c.commands.result.now) c.in_ok-ranks.ranks c.in_ok-reads.reads c.in_ok-writes.writes) c.in_ok-ranks.ensures
    c.requires.idle c.requires.growing count (c.in_ok-reads.ensures ∙ c.reads.ensures) (c.in_ok-writes.ensures ∙ c.writes.ensures))
