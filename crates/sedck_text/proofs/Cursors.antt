-- What is left of a text for a cursor further on, and the byte right before it.
use Rattle.std.proofs.Common.{◌≡◌, ℕ, zero, suc, ◌+◌, ◌-◌, List, [], ◌∷◌, ◌++◌, Some, length, take, drop, sym, ap, ◌∙◌, arith}
use Rattle.std.specs.Prelude.{slice_get}
use Rattle.std.proofs.Math.Seq.{drop-nil}
use Rattle.std.proofs.lemmas.List.{length-drop, take-append-drop}
use Rattle.sedck_text.specs.declared.cursor.Cursor.{Cursor}
use Rattle.sedck_text.specs.Cursors.{unread, IsAhead, Follows}

pub unread_ahead : {old new : Cursor} {n : ℕ} → IsAhead old n new → unread new ≡ drop n (unread old)
unread_ahead h = h.left

-- the first byte of what is left
pub first_there : (n : ℕ) (text more : List ℕ) (b : ℕ) → drop n text ≡ b ∷ more → slice_get text n ≡ Some b
first_there n [] more b e = absurd (cc (sym (drop-nil n) ∙ e))
first_there zero (x ∷ text) more b e = ap Some (cc e)
first_there (suc n) (x ∷ text) more b e = first_there n text more b e

-- a byte on, the first byte of what was left is the last one that was read
pub follows_first : {old new : Cursor} {b : ℕ} {more : List ℕ} → unread old ≡ b ∷ more → IsAhead old 1 new → Follows new b
follows_first {old} {new} {b} {more} e h =
    let back : new.at - 1 ≡ old.at = omega (arith, h.at) in
    (omega (arith, h.at), rw back (rw h.whole (first_there old.at old.whole.now more b e)))

-- what has been read, and then what is left, are the whole
pub read_unread : (cursor : Cursor) → take cursor.at cursor.whole.now ++ unread cursor ≡ cursor.whole.now
read_unread cursor = take-append-drop cursor.at cursor.whole.now

-- how much has been read, by the lengths
pub unread_length : (cursor : Cursor) → cursor.at + length (unread cursor) ≡ length cursor.whole.now
unread_length cursor = omega (arith, cursor.within, length-drop cursor.at cursor.whole.now)
