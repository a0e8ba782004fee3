-- What is at the offset of a fault of an address.
use Rattle.sedck_commands.proofs.Common.{◌≡◌, ℕ, true, false, List, [], ◌∷◌, length, refl, sym, ◌∙◌, inl, inr, false≢true, is_in, ScriptFault, verb_bytes, IsPlaced, EndsIn, begins_part, BeginsAt, PlaceFault, AddressFault}
use Rattle.sedck_commands.specs.Faults.{IsUnread}
use Rattle.sedck_commands.specs.FirstFaults as o
use Rattle.sedck_commands.specs.declared.fault.ScriptFault.TheVariants as fault
use Rattle.sedck_commands.proofs.OffsetLemmas.{tail_cut, tail_tail, tail_behind}
use Rattle.sedck_commands.proofs.TextEnds.{whole_from, byte_at, fails_at, follows_byte}
use Rattle.sedck_commands.proofs.UniqueAddresses.{place_tail}
use Rattle.sedck_commands.proofs.VerbBytes.{byte_of}
use Rattle.sedck_commands.proofs.OneFaultAddresses.{place_fault_not}
use Rattle.sedck_commands.proofs.PlacedParts.{part_placed, pattern_placed}

-- an address begins the text, and has no end
no_end : {whole text behind : List ℕ} {f : ScriptFault} (b opening : ℕ) → EndsIn whole text → text ≡ b ∷ behind → BeginsAt (length whole) text opening
    → begins_part b ≡ true → is_in b verb_bytes ≡ false → PlaceFault (length whole) text f → IsPlaced whole (fault.Unterminated opening)
unfolding IsUnread
no_end b opening h e a part other x =
    let here = whole_from opening h a in (
      (b, byte_at opening h e a, part),
      (λ address rest y. place_fault_not x (rw here at y), λ verb rest y. false≢true (sym other ∙ (byte_of (here ∙ e) y).known)),
    )

pub place_placed : {whole text : List ℕ} {f : ScriptFault} → EndsIn whole text → PlaceFault (length whole) text f → IsPlaced whole f
place_placed h (o.number {b = b} {offset = offset} e d none a) =
    inl ((b, byte_at _ h e a, d), λ n rest y. none n rest (rw (whole_from offset h a) at y))
place_placed {whole} {f = f} h (o.context {opening = opening} e a x) =
    part_placed opening whole f (pattern_placed refl (rw e at h) x) (λ is. no_end 47 opening h e a refl refl (o.context e a x))
place_placed h (o.undelimited {opening = opening} e n a) = no_end 92 opening h e a refl refl (o.undelimited e n a)
place_placed {whole} {f = f} h (o.custom {opening = opening} e d a x) =
    part_placed opening whole f (pattern_placed d (tail_tail h (92 ∷ [], e)) x) (λ is. no_end 92 opening h e a refl refl (o.custom e d a x))

pub address_placed : {whole text : List ℕ} {f : ScriptFault} → EndsIn whole text → AddressFault (length whole) text f → IsPlaced whole f
address_placed h (o.first x) = place_placed h x
address_placed h (o.missing {offset = offset} p c n a) =
    let comma = tail_tail (tail_tail h (place_tail p)) (tail_cut c.before) in
    inr (follows_byte offset comma c.after a refl, fails_at offset (tail_tail (tail_behind comma refl) (tail_cut c.after)) n a)
address_placed h (o.second p c x) =
    place_placed (tail_tail (tail_behind (tail_tail (tail_tail h (place_tail p)) (tail_cut c.before)) refl) (tail_cut c.after)) x
