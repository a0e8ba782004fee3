-- What is known where the tree and its text have been gone through together.
use Rattle.std.specs.Prelude.{◌≡◌, ◌⊎◌, ◌+◌, ℕ, true, List, IsTrue, Result, Ok, Err}
use Rattle.sedck_text.specs.Cursors.{unread}
use Rattle.sedck_text.specs.declared.cursor.Cursor.{Cursor}
use Rattle.sedck_expressions.specs.Tree.{Tree, Trees, Seq}
use Rattle.sedck_expressions.specs.Misjudged.{has_part, is_anchor, repeats_anchor, HasNoneSought, IsFirstSought}
use Rattle.sedck_expressions.specs.Faults.{HasOneAt}
use Rattle.sedck_expressions.specs.declared.fault.ReFault.{ReFault}
use Rattle.sedck_expressions.specs.declared.fault.ReFault.TheVariants.{BadReference, NothingToRepeat}
use Rattle.sedck_expressions.specs.declared.judging.Sought.{Sought}

-- a reference or an anchor is at the fault's place, and the tree has one that is sought
abbrev pub StopsAt : Sought → Tree → List ℕ → ReFault → Type 0
StopsAt sought t text (BadReference offset) = HasOneAt text offset "\\" × HasOneAt text (offset + 1) "123456789" × IsTrue sought.references
StopsAt sought t text (NothingToRepeat offset) =
    HasOneAt text offset "^$" × ((IsTrue sought.anchors × (has_part is_anchor t ≡ true)) ⊎ (has_part repeats_anchor t ≡ true))
StopsAt sought t text _ = ⊥

-- The text of the tree begins at the cursor. The tree has nothing that is sought and this is left after it, or the fault is that of the first part that is.
abbrev pub Passes : Sought → Tree → Cursor → (text after : List ℕ) → Result Cursor ReFault → Type 0
Passes sought t start text after (Ok x) = (unread x ≡ after) × HasNoneSought sought.references sought.anchors t
Passes sought t start text after (Err fault) =
    StopsAt sought t start.whole.now fault × IsFirstSought sought.references sought.anchors t text start.at fault

abbrev pub PassesAll : Sought → Trees → Cursor → (text after : List ℕ) → Result Cursor ReFault → Type 0
PassesAll sought ts = Passes sought (Seq ts)
