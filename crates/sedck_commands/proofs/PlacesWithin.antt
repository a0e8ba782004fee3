-- The place of a fault is within the text.
use Rattle.sedck_commands.proofs.Common.{ℕ, ◌<◌, ◌≤◌, List, length, drop, ap, length-append, inl, inr, arith, IfSome, length-drop, slice_get_within, is_label_byte, Longest, StandsAt, IsPlaced, ScriptFault, fault_place}
use Rattle.sedck_commands.specs.declared.fault.ScriptFault.TheVariants as fault

within : (text : List ℕ) (place b : ℕ) → StandsAt text place b → place ≤ length text
within text place b h = omega (arith, slice_get_within text place b h)

label_within : (text : List ℕ) (place : ℕ) {name rest : List ℕ} → Longest is_label_byte (drop place text) name rest → 0 < length name → place ≤ length text
label_within text place {name} {rest} l some = omega (arith, ap length l.cut, length-append name rest, length-drop place text, some)

pub placed_within : (text : List ℕ) (f : ScriptFault) → IsPlaced text f → IfSome (fault_place f) (λ place. place ≤ length text)
placed_within text (fault.TooLong place) h = omega (arith, h.0, h.1)
placed_within text (fault.NulByte place) h = within text place _ h.0.0
placed_within text (fault.UnknownCommand place) h = h.1.0
placed_within text (fault.BadAddress place) h = elim h [ inl none ↦ within text place _ none.0.1 | inr none ↦ none.1.0 ]
placed_within text (fault.TooManyAddresses place) h = within text place _ h.1
placed_within text (fault.BadExpression place cause) h = omega (arith, slice_get_within text _ _ h.opened, h.behind)
placed_within text (fault.Unterminated place) h = within text place _ h.0.1
placed_within text (fault.BadReplacement place) h = within text place _ h
placed_within text (fault.BadFlag place) h = within text place _ h.1
placed_within text (fault.BadTransliteration place) h = elim h [
  | inl stands ↦ within text place _ stands.1
  | inr left ↦ omega (arith, ap length left.here, length-drop place text)
]
placed_within text (fault.MissingText place) h = within text place _ h.0.1
placed_within text (fault.MissingName place) h = within text place _ h.0.1
placed_within text (fault.BadLabel place) h = h.1.0
placed_within text (fault.DuplicateLabel place) h = label_within text place h.1.2 h.1.3
placed_within text (fault.UnknownLabel place) h = label_within text place h.1.2 h.1.3
placed_within text (fault.UnopenedBlock place) h = within text place _ h
placed_within text (fault.UnclosedBlock place) h = within text place _ h
placed_within text (fault.TooDeep place) h = within text place _ h
placed_within text (fault.TooManyCommands place) h = within text place _ h.1
placed_within text (fault.ExtraText place) h = within text place _ h.1
placed_within text (fault.NoPreviousExpression place) h = within text place _ h.4
placed_within text (fault.EscapedDelimiter place) h = elim h [
  | inl forbidden ↦ within text place _ forbidden.0
  | inr beside ↦ omega (arith, ap length beside.here, length-drop place text)
]
placed_within text fault.OutOfMemory h = tt
