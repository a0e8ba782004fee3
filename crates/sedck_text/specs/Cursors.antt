-- A text, and how far it has been read.
use Rattle.std.specs.Prelude.{◌≡◌, ℕ, ◌+◌, ◌-◌, ◌<◌, List, drop, Some, slice_get}
use Rattle.sedck_text.specs.declared.cursor.Cursor.{Cursor}

-- what hasn't been read yet
abbrev pub unread : Cursor → List ℕ
unread cursor = drop cursor.at cursor.whole.now

-- the second cursor is in the same text, this many bytes on (what it has left follows from that, and is said for proofs)
pub record IsAhead (old : Cursor) (count : ℕ) (new : Cursor) : Type 0 where
  pub whole : new.whole ≡ old.whole
  pub at : new.at ≡ old.at + count
  pub left : unread new ≡ drop count (unread old)

-- this byte is the last one that has been read
abbrev pub Follows : Cursor → ℕ → Type 0
Follows cursor byte = (0 < cursor.at) × (slice_get cursor.whole.now (cursor.at - 1) ≡ Some byte)
