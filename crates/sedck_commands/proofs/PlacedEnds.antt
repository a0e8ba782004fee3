-- What is at the offset of a fault of an end, a comment, a text or a name.
use Rattle.sedck_commands.proofs.Common.{◌≡◌, ℕ, ◌+◌, Bool, true, false, List, [], ◌∷◌, ◌++◌, length, refl, ap, ◌∙◌, append_assoc, arith, not-true, one_of, is_blank, is_continued, begins_address, StandsWhere, is_extra, IsPlaced, EndsIn, ScriptFault, drop, subst, sym, false≢true, VerbText, BeginsAt, EndFault, EndFlagsFault, CommentFault, TextFault, NameFault}
use Rattle.sedck_commands.specs.FirstFaults as o
use Rattle.sedck_commands.specs.Faults.{IsUnread}
use Rattle.sedck_commands.proofs.UniqueVerbs.{NoVerb}
use Rattle.sedck_commands.proofs.OffsetLemmas.{tail_cut, tail_tail, tail_behind, ends_tail}
use Rattle.sedck_commands.proofs.TextEnds.{whole_from, byte_at}
use Rattle.sedck_commands.proofs.LineBytes.{continued_cut}
use Rattle.sedck_commands.proofs.ControlLemmas.{control_byte, control_cut}
use Rattle.sedck_commands.proofs.VerbCases.{no_text, no_name}
use Rattle.sedck_commands.proofs.UniqueItems.{place_first}
use Rattle.sedck_commands.proofs.FirstBytes.{heads}
use Rattle.sedck_commands.proofs.OneFaultEnds.{file_not}

unread_verb : {text : List ℕ} {b : ℕ} (whole : List ℕ) (place : ℕ) → drop place whole ≡ b ∷ text → begins_address b ≡ false
    → NoVerb (b ∷ text) → IsUnread whole place
unfolding IsUnread
unread_verb whole place here other none = (
  λ address rest x. let first = place_first x in absurd (false≢true (sym other ∙ ap begins_address (heads (sym here ∙ first.2)) ∙ first.3)),
  λ verb rest x. none verb rest (subst (λ t. VerbText t verb rest) here x),
)

-- the last byte of a line that is joined with the next one
joined_placed : {whole : List ℕ} (line behind : List ℕ) (offset : ℕ) → EndsIn whole (line ++ behind) → is_continued line ≡ true
    → BeginsAt (length whole) behind (offset + 1) → StandsWhere is_extra whole offset
joined_placed line behind offset h c a =
    let last = continued_cut line c in
    let cut = ap (λ t. t ++ behind) last.1 ∙ append_assoc last.0 (92 ∷ []) behind in
    (92, byte_at offset (tail_tail h (last.0, cut)) refl (omega (arith, a)), refl)

module _ {whole text : List ℕ} (h : EndsIn whole text) where
  pub end_placed : {f : ScriptFault} → EndFault (length whole) text f → IsPlaced whole f
  end_placed (o.extra {b = b} l n a) = (b, byte_at _ (tail_tail h (tail_cut l)) refl a, rw (not-true (is_blank b) l.stops, n) refl)

  pub comment_placed : {f : ScriptFault} → CommentFault (length whole) text f → IsPlaced whole f
  comment_placed (o.inner_return {rest = rest} front more l e n some a) =
      let cut = l.cut ∙ ap (λ t. t ++ rest) e ∙ append_assoc front (13 ∷ more) rest in
      (13, byte_at _ (tail_tail h (front, cut)) refl a, refl)

pub end_flags_placed : {whole text : List ℕ} {f : ScriptFault} → EndsIn whole text → EndFlagsFault (length whole) text f → IsPlaced whole f
end_flags_placed h (o.ends x) = end_placed h x
end_flags_placed {whole} h (o.joined {line = line} {behind = behind} e b l some c a) =
    joined_placed line behind _ (rw l.cut at (tail_tail h (ends_tail e))) c a

module _ {whole text behind : List ℕ} {b : ℕ} (h : EndsIn whole text) (e : text ≡ b ∷ behind) where
  -- a verb that can't be read begins the text
  pub verb_stands : {test : ℕ → Bool} (opening : ℕ) → test b ≡ true → begins_address b ≡ false → BeginsAt (length whole) text opening → NoVerb (b ∷ behind)
      → StandsWhere test whole opening × IsUnread whole opening
  verb_stands opening listed other a none = ((b, byte_at opening h e a, listed), unread_verb whole opening (whole_from opening h a ∙ e) other none)

  pub text_placed : {opening : ℕ} {f : ScriptFault} → one_of "aci" b ≡ true → BeginsAt (length whole) text opening → TextFault opening behind f
      → IsPlaced whole f
  text_placed {opening} listed a (o.missing l n) = verb_stands opening listed (grind (arith, listed)) a (no_text b listed l n)

  pub name_placed : {opening : ℕ} {f : ScriptFault} → one_of "rw" b ≡ true → BeginsAt (length whole) text opening
      → NameFault (length whole) opening behind f → IsPlaced whole f
  name_placed {opening} listed a (o.missing l n) =
      verb_stands opening listed (grind (arith, listed)) a
      (no_name b listed (λ name r m. file_not {size = length whole} {opening = opening} (o.missing l n) m))
  name_placed listed a (o.control {rest = rest} {behind = control} l m f at) =
      let front = control_cut f in
      let byte = control_byte f m.passes in
      let cut = m.cut ∙ ap (λ t. t ++ rest) front.1 ∙ append_assoc front.0 control rest in
      (byte.0, byte_at _ (tail_tail (tail_tail (tail_behind h e) (tail_cut l)) (front.0, cut)) (ap (λ t. t ++ rest) byte.2) at, byte.3)
  name_placed listed a (o.joined {name = name} {rest = rest} l m some plain more c at) =
      joined_placed name rest _ (rw m.cut at (tail_tail (tail_behind h e) (tail_cut l))) c at
