-- What is at the offset of a fault of a label.
use Rattle.sedck_commands.proofs.Common.{◌≡◌, ℕ, true, List, ◌∷◌, ◌++◌, length, refl, ap, sym, ◌∙◌, append_assoc, arith, one_of, is_label_byte, EndsOrFails, IsPlaced, EndsIn, ScriptFault, BeginsAt, IsLabelAt, DefinitionFault, LabelFault, JumpFault, FollowsLabel}
use Rattle.sedck_commands.specs.FirstFaults as o
use Rattle.sedck_commands.proofs.OffsetLemmas.{tail_cut, tail_tail, tail_behind}
use Rattle.sedck_commands.proofs.TextEnds.{whole_from, whole_to, fails_at, follows_byte}
use Rattle.sedck_commands.proofs.UniqueItems.{longest_along}
use Rattle.sedck_commands.proofs.PlacedEnds.{end_placed}

-- what is before the rest of a label
label_cut : {text name rest : List ℕ} (l : IsLabelAt text name rest) → text ≡ (l.blanks ++ name) ++ rest
label_cut {name = name} {rest = rest} l = l.skipped.cut ∙ ap (λ t. l.blanks ++ t) l.run.cut ∙ sym (append_assoc l.blanks name rest)

label_rest : {whole text name rest : List ℕ} → EndsIn whole text → IsLabelAt text name rest → EndsIn whole rest
label_rest h l = tail_tail h (_, label_cut l)

-- a label, or one that is missing, is over before the rest
pub label_over : {whole text behind name rest : List ℕ} {b : ℕ} (offset : ℕ) → EndsIn whole text → text ≡ b ∷ behind → IsLabelAt behind name rest
    → one_of ":bt" b ≡ true → BeginsAt (length whole) rest offset → FollowsLabel whole offset × EndsOrFails is_label_byte whole offset
label_over {name = name} {rest = rest} {b = b} offset h e l listed a =
    let read = whole_to (b ∷ (l.blanks ++ name)) rest offset h (e ∙ ap (λ t. b ∷ t) (label_cut l)) a in (
      (h.0, l.blanks, name, b, read, listed, l.skipped.passes, l.run.passes),
      fails_at offset (label_rest (tail_behind h e) l) l.run.stops a,
    )

pub definition_placed : {whole text behind : List ℕ} {f : ScriptFault} → EndsIn whole text → text ≡ 58 ∷ behind → DefinitionFault (length whole) behind f
    → IsPlaced whole f
definition_placed h e (o.missing l a) = label_over _ h e l refl a
definition_placed h e (o.byte l some n a) = label_over _ h e l refl a

pub label_placed : {whole text behind : List ℕ} {IsDefined : List ℕ → Type 0} {f : ScriptFault} → EndsIn whole text → text ≡ 58 ∷ behind
    → LabelFault (length whole) IsDefined behind f → IsPlaced whole f
label_placed h e (o.definition x) = definition_placed h e x
label_placed {whole} h e (o.duplicate {name = name} {behind = rest} {offset = offset} l some free known a) =
    let at : BeginsAt (length whole) l.begins offset = omega (arith, a, ap length l.run.cut) in
    let run = longest_along (sym (whole_from offset (tail_tail (tail_behind h e) (tail_cut l.skipped)) at)) l.run in
    (name, (follows_byte offset (rw e at h) l.skipped at refl, rest, run, some))
label_placed h e (o.ends l some free new x) = end_placed (label_rest (tail_behind h e) l) x

pub listed_jump : (b : ℕ) → one_of "bt" b ≡ true → one_of ":bt" b ≡ true
listed_jump b h = grind (arith, h)

pub jump_placed : {whole text behind : List ℕ} {b : ℕ} {f : ScriptFault} → EndsIn whole text → text ≡ b ∷ behind → one_of "bt" b ≡ true
    → JumpFault (length whole) behind f → IsPlaced whole f
jump_placed {b = b} h e listed (o.missing l n a) = label_over _ h e l (listed_jump b listed) a
jump_placed {b = b} h e listed (o.byte l some n a) = label_over _ h e l (listed_jump b listed) a
jump_placed h e listed (o.ends l some free x) = end_placed (label_rest (tail_behind h e) l) x
jump_placed {b = b} h e listed (o.comment l some free k c a) = label_over _ h e l (listed_jump b listed) a
