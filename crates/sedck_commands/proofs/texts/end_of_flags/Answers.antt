use Rattle.sedck_commands.proofs.Common.{◌≡◌, ◌⊎◌, ◌∙◌, List, ℕ, [], Some, false, inl, inr, ap, sym, subst, arith, not, is_newline, is_continued, Longest, longest_one, unread, nil_from_length}
use Rattle.sedck_commands.proofs.ResultLemmas.{if_err_from}
use Rattle.sedck_commands.proofs.LineBytes.{begins_hash}
use Rattle.sedck_commands.proofs.FaultLemmas2.{begins_behind}
use Rattle.sedck_commands.specs.FirstFaults as fault
use Rattle.sedck_commands.proofs.texts.end_of_flags.Goals as goal
use Rattle.sedck_commands.proofs.texts.end_of_flags.Goals.{else-not-is_empty-via-then-not-is_empty+else-is_continued, else-not-is_empty-via-else-not-is_empty}

-- what is known of one line and what follows it is known of all
same_line : {text line rest other more : List ℕ} → Longest (λ b. not (is_newline b)) text line rest → Longest (λ b. not (is_newline b)) text other more
    → (rest ≡ []) ⊎ (is_continued line ≡ false) → (more ≡ []) ⊎ (is_continued other ≡ false)
same_line l m (inl none) = inl (sym (longest_one l m).1 ∙ none)
same_line l m (inr over) = inr (subst (λ t. is_continued t ≡ false) (longest_one l m).0 over)

pub returns-clause-read : goal.returns-clause-read
returns-clause-read c =
    let over : (unread c.split.result.1 ≡ []) ⊎ (is_continued c.split.result.0.now ≡ false) = elim c.else-not-is_empty.branch [
      | else-not-is_empty-via-then-not-is_empty+else-is_continued w ↦ inr (sym w.is_continued.ensures ∙ w.if-is_continued.false)
      | else-not-is_empty-via-else-not-is_empty w ↦ inl
          (nil_from_length _ (grind (arith, c.is_empty.ensures, w.if-not-is_empty.false, c.unread.ensures)))
    ] in
    (c.in_ok-rest.ensures.read, λ comment line rest l. same_line c.split.ensures.run l over)

pub returns-in_err-rest-clause-first : goal.returns-in_err-rest-clause-first
returns-in_err-rest-clause-first c = if_err_from _ c.from_residual.result _ c.from_residual.ensures.1 (fault.EndFlagsFault.ends c.in_err-rest.ensures.first)

pub returns-then-is_continued-clause-first : goal.returns-then-is_continued-clause-first
returns-then-is_continued-clause-first c =
    let over = sym c.is_continued.ensures ∙ c.if-is_continued.true in
    fault.EndFlagsFault.joined c.in_ok-rest.ensures.read
    (begins_hash _ c.first.ensures (c.in-Some-eq35.is ∙ ap (λ b. Some b) c.in-Some-eq35.field-0-test)) c.split.ensures.run
    (grind (arith, c.is_empty.ensures, c.if-not-is_empty.true, c.unread.ensures)) over
    (begins_behind c.in_ok-rest.rest c.split.result.1 c.split.result.0.now c.in_ok-rest.ensures.same c.split.ensures.ahead over c.offset.ensures)
