use Rattle.sedck_commands.proofs.Common.{◌≡◌, ◌||◌, true, ◌∷◌, length, refl, ap, ◌∙◌, sym, is_blank, is_ending, or_left, unread, or_right, FlagsFault}
use Rattle.sedck_commands.proofs.ResultLemmas.{if_err_from, if_err_same}
use Rattle.sedck_commands.proofs.FaultLemmas2.{begins_here, no_flag_byte}
use Rattle.sedck_commands.specs.FirstFaults as fault
use Rattle.sedck_commands.proofs.flags.read_flag.Goals as goal
use Rattle.sedck_commands.proofs.flags.read_flag.Goals.{else-not-has-via-then-not-has+else-not-is_ending, else-not-has-via-else-not-has}

pub returns-in_err-name-clause-first : goal.returns-in_err-name-clause-first
returns-in_err-name-clause-first c = if_err_same (λ whole f. (g p n : _) → FlagsFault (length whole) g p n (unread c.args.text) f)
    c.from_residual.result _ c.from_residual.ensures.1 c.in-Some.ensures.ahead.0.whole (λ g p n.
    fault.FlagsFault.file (c.in-Some.ensures.cut ∙ ap (λ b. b ∷ unread c.in-Some.behind) c.if-first-eq119.true)
    (begins_here c.args.text (sym c.in-Some.ensures.ahead.0.whole) refl c.offset-place.ensures) c.in_err-name.ensures.first)

pub returns-in_default-read_number-clause-first : goal.returns-in_default-read_number-clause-first
returns-in_default-read_number-clause-first c = λ g p n. fault.FlagsFault.no_number c.in-Some.ensures.cut (sym c.is_digit.ensures ∙ c.if-is_digit.true)
    c.in_default-read_number.ensures.none (begins_here c.args.text refl refl c.offset-place.ensures)

pub returns-then-not-is_ending-clause-first : goal.returns-then-not-is_ending-clause-first
returns-then-not-is_ending-clause-first c = λ g p n. fault.FlagsFault.unknown c.in-Some.ensures.cut
    (no_flag_byte c.in-Some.first c.if-first-eq103.false c.if-first-eq112.false c.if-first-eq119.false (sym c.is_digit.ensures ∙ c.if-is_digit.false)
    (sym c.has.ensures ∙ c.if-not-has.true) (sym c.is_ending.ensures ∙ c.if-not-is_ending.true))
    (begins_here c.args.text refl refl c.offset-place.ensures)

pub returns-in_err-rest-clause-first : goal.returns-in_err-rest-clause-first
returns-in_err-rest-clause-first c =
    let ends : (is_blank c.in-Some.first || is_ending c.in-Some.first) ≡ true = elim c.else-not-has.branch [
      | else-not-has-via-then-not-has+else-not-is_ending w ↦ or_right _ _ (sym w.is_ending.ensures ∙ w.if-not-is_ending.false)
      | else-not-has-via-else-not-has w ↦ or_left _ _ (sym c.has.ensures ∙ w.if-not-has.false)
    ] in
    if_err_from _ c.from_residual-in_err-rest.result _ c.from_residual-in_err-rest.ensures.1
    (λ g p n. fault.FlagsFault.ends c.in-Some.ensures.cut ends c.in_err-rest.ensures.first)
