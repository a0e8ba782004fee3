-- What is at the offset of a fault of what `s` and `y` take.
use Rattle.sedck_commands.proofs.Common.{◌≡◌, ℕ, Bool, List, ◌∷◌, length, refl, inl, arith, ScriptFault, IsPlaced, EndsIn, is_digit, is_extra, true, not_from_false, false_from_ne_true, begins_part, BeginsAt, FlagsFault, SubstitutionFault, TransliterationFault}
use Rattle.sedck_commands.specs.FirstFaults as o
use Rattle.sedck_commands.specs.declared.fault.ScriptFault.TheVariants as fault
use Rattle.sedck_commands.proofs.OffsetLemmas.{tail_tail, tail_behind, number_tail, expression_tail, list_tail, replacement_tail}
use Rattle.sedck_commands.proofs.TextEnds.{byte_at}
use Rattle.sedck_commands.proofs.UniqueParts.{number_first, digit_no_end}
use Rattle.sedck_commands.proofs.OneFaultFlags.{substitution_fault_not}
use Rattle.sedck_commands.proofs.OneFaultVerbs.{transliteration_fault_not}
use Rattle.sedck_commands.proofs.PlacedEnds.{end_placed, end_flags_placed, verb_stands, name_placed}
use Rattle.sedck_commands.proofs.PlacedParts.{part_placed, pattern_placed, list_placed, first_list_placed, replacement_placed}

extra_digit : (b : ℕ) → is_digit b ≡ true → is_extra b ≡ true
extra_digit b h = not_from_false _ (false_from_ne_true _ (digit_no_end b h))

-- ---- Flags

pub flags_placed : {whole text : List ℕ} {global print numbered : Bool} {f : ScriptFault} → EndsIn whole text
    → FlagsFault (length whole) global print numbered text f → IsPlaced whole f
flags_placed h (o.ends e b x) = end_flags_placed h x
flags_placed h (o.unknown {b = b} e n a) = (b, byte_at _ h e a, grind (arith, n))
flags_placed h (o.no_number {b = b} e d n a) = (b, byte_at _ h e a, extra_digit b d)
flags_placed h (o.file e a x) = name_placed h e refl a x
flags_placed h (o.global_again e a) = (103, byte_at _ h e a, refl)
flags_placed h (o.print_again e a) = (112, byte_at _ h e a, refl)
flags_placed h (o.number_again n a) = let first = number_first n in (first.0, byte_at _ h first.2 a, extra_digit first.0 first.3)
flags_placed h (o.global e x) = flags_placed (tail_behind h e) x
flags_placed h (o.print e x) = flags_placed (tail_behind h e) x
flags_placed h (o.number n x) = flags_placed (tail_tail h (number_tail n)) x

-- ---- Substitutions and transliterations

module _ {whole text behind : List ℕ} {opening : ℕ} (h : EndsIn whole text) where
  pub substitution_placed : {f : ScriptFault} → text ≡ 115 ∷ behind → BeginsAt (length whole) text opening
      → SubstitutionFault (length whole) opening behind f → IsPlaced whole f
  substitution_placed e a x = placed x
    where
      no_end : IsPlaced whole (fault.Unterminated opening)
      no_end = verb_stands h e {test = begins_part} opening refl refl a (λ verb rest y. substitution_fault_not x y)

      placed : {g : ScriptFault} → SubstitutionFault (length whole) opening behind g → IsPlaced whole g
      placed (o.undelimited n) = no_end
      placed {g} (o.pattern i d y) = part_placed opening whole g (pattern_placed d (rw i at (tail_behind h e)) y) (λ is. no_end)
      placed {g} (o.replacement i d y q z) =
          part_placed opening whole g (replacement_placed d (tail_tail (tail_behind (tail_behind h e) i) (expression_tail y.cut)) z) (λ is. no_end)
      placed (o.flags i d y q z k w) =
          flags_placed (tail_tail (tail_tail (tail_behind (tail_behind h e) i) (expression_tail y.cut)) (replacement_tail z)) w

  pub transliteration_placed : {f : ScriptFault} → text ≡ 121 ∷ behind → BeginsAt (length whole) text opening
      → TransliterationFault (length whole) opening behind f → IsPlaced whole f
  transliteration_placed e a x = placed x
    where
      no_end : IsPlaced whole (fault.Unterminated opening)
      no_end = verb_stands h e {test = begins_part} opening refl refl a (λ verb rest y. transliteration_fault_not x y)

      placed : {g : ScriptFault} → TransliterationFault (length whole) opening behind g → IsPlaced whole g
      placed (o.undelimited n) = no_end
      placed {g} (o.first i d y) = part_placed opening whole g (first_list_placed d (rw (e, i) at h) y) (λ is. no_end)
      placed {g} (o.second i d l y) =
          part_placed opening whole g (list_placed d (tail_tail (tail_behind (tail_behind h e) i) (list_tail l.list)) y) (λ is. no_end)
      placed (o.lengths i d l m n) = inl (121, byte_at _ h e a, refl)
      placed (o.ends i d l m n y) = end_placed (tail_tail (tail_tail (tail_behind (tail_behind h e) i) (list_tail l.list)) (list_tail m)) y
