-- A text with a first fault has no items.
use Rattle.sedck_commands.proofs.Common.{◌≡◌, ℕ, suc, ◌<◌, ◌≤◌, Bool, true, List, [], ◌∷◌, ◌++◌, length, Option, refl, ap, sym, ◌∙◌, subst, inl, inr, append_assoc, length-append, arith, Address, WrittenVerb, Known, JumpTo, Opening, CommandText, Item, Written, Closing, Items, verb_turn, commands_among, ScriptFault, longest_one, Nests, AreLabelsOnce, Defines, NotesBlock, ItemsFault}
use Rattle.sedck_commands.specs.Items as w
use Rattle.sedck_commands.specs.FirstFaults as o
use Rattle.sedck_commands.proofs.FirstBytes.{tails}
use Rattle.sedck_commands.proofs.UniqueParts.{ends_one}
use Rattle.sedck_commands.proofs.UniqueItems.{longest_along, command_one, no_command_other, no_command_end}
use Rattle.sedck_commands.proofs.StateLemmas.{among_append}
use Rattle.sedck_commands.proofs.ProgressLemmas.{label_item, twice}
use Rattle.sedck_commands.proofs.OneFaultEnds.{end_not, comment_not}
use Rattle.sedck_commands.proofs.OneFaultLabels.{IsFresh}
use Rattle.sedck_commands.proofs.OneFaultItems.{command_fault_not, head_kind, other_kind, Begun, begun, kinds_one}

-- these items may follow those, where so many blocks are open
record MayFollow (items : List Item) (depth : ℕ) (more : List Item) : Type 0 where
  few : length (commands_among (items ++ more)) ≤ 4095
  once : AreLabelsOnce (commands_among (items ++ more))
  nests : Nests more depth

-- the first of them is one of those
moved : {items more : List Item} {depth now : ℕ} (item : Item) → MayFollow items depth (item ∷ more) → Nests more now
    → MayFollow (items ++ item ∷ []) now more
moved {items} {more} item g n =
    let same = ap commands_among (append_assoc items (item ∷ []) more) in record { few = rw same g.few; once = rw same g.once; nests = n }

-- ---- What begins the items

abbrev kind_of : {text : List ℕ} {items : List Item} → Items text items → ℕ
kind_of (w.nothing l) = 0
kind_of (w.comment l h k r x) = 35
kind_of (w.closing l h e x) = 125
kind_of (w.command l c x) = 1

command_kind : {a : Address} {n : Bool} {v : WrittenVerb} {rest : List ℕ} (begins : List ℕ) → CommandText begins a n v rest → head_kind begins ≡ 1
command_kind [] c = no_command_end refl c
command_kind (b ∷ begins) c = other_kind b (λ e. no_command_other refl (inl e) c) (λ e. no_command_other refl (inr e) c)

items_begun : {text : List ℕ} {items : List Item} (x : Items text items) → Begun text (kind_of x)
items_begun (w.nothing l) = (_, _, l, refl)
items_begun (w.comment l h k r x) = (_, _, l, rw h refl)
items_begun (w.closing l h e x) = (_, _, l, rw h refl)
items_begun (w.command l c x) = (_, _, l, command_kind _ c)

-- ---- A command

module _ {items more : List Item} {depth : ℕ} {a : Address} {n : Bool} {v : WrittenVerb} (g : MayFollow items depth (Written a n v ∷ more)) where
  fresh : {text rest : List ℕ} → CommandText text a n v rest → IsFresh (Defines items) v
  fresh c name e known =
      twice (commands_among items) (commands_among more) (commands_among (items ++ Written a n v ∷ more)) name known.0 known.1
      (among_append items (Written a n v ∷ more) ∙ ap (λ y. commands_among items ++ y ∷ commands_among more) (label_item v e c.taken)) g.once

  shallow : v ≡ Opening → depth < 64
  shallow e = (subst (λ u. Nests (Written a n u ∷ more) depth) e g.nests).0

  braced : (tests : Bool) (label : Option (List ℕ)) → v ≡ JumpTo tests label true → depth ≤ 1
  braced tests label e = (subst (λ u. Nests (Written a n u ∷ more) depth) e g.nests).0 refl

  few : length (commands_among items) < 4095
  few = omega (
    arith,
    g.few,
    ap length (among_append items (Written a n v ∷ more)),
    length-append (commands_among items) (commands_among (Written a n v ∷ more)),
  )

-- what follows a command, and the end of a block
behind_command : {items more : List Item} {a : Address} {n : Bool} (v : WrittenVerb) (opened now : List ℕ) (last : ℕ)
    → NotesBlock (verb_turn v) opened now last → MayFollow items (length opened) (Written a n v ∷ more)
    → MayFollow (items ++ Written a n v ∷ []) (length now) more
behind_command (Known verb) opened now last h g = moved _ g (rw h g.nests)
behind_command (JumpTo tests label brace) opened now last h g = moved _ g (rw h g.nests.1)
behind_command {more = more} Opening opened now last h g =
    let long : suc (length opened) ≡ length now = omega (arith, ap length h, length-append opened (last ∷ [])) in
    moved _ g (subst (λ d. Nests more d) long g.nests.1)

behind_closing : {items more : List Item} (opened others : List ℕ) (last : ℕ) → opened ≡ others ++ last ∷ []
    → MayFollow items (length opened) (Closing ∷ more) → MayFollow (items ++ Closing ∷ []) (length others) more
behind_closing {more = more} opened others last e g =
    let long : length opened ≡ suc (length others) = omega (arith, ap length e, length-append others (last ∷ [])) in
    moved Closing g (subst (λ d. Nests (Closing ∷ more) d) long g.nests)

-- ---- No items

refused : {size : ℕ} {items more : List Item} {opened text : List ℕ} {f : ScriptFault} → ItemsFault size items opened text f → Items text more
    → MayFollow items (length opened) more → ⊥
refused (o.bad_comment l x) (w.comment m h k r y) g = comment_not (rw (tails (longest_one l m).1) at x) k r
refused (o.comment l j i x) (w.comment {items = more} m h k r y) g =
    let lines = longest_one (longest_along (tails (longest_one l m).1) j) k in refused x (subst (λ t. Items t more) (sym lines.1) y) g
refused (o.unopened l none a) (w.closing {items = more} m h e y) g = subst (λ d. Nests (Closing ∷ more) d) none g.nests
refused (o.bad_end l some x) (w.closing m h e y) g = end_not (rw (tails (longest_one l m).1) at x) e
refused (o.closing last l e k x) (w.closing {items = more} m h j y) g =
    let rests = ends_one (rw (tails (longest_one l m).1) at k) j in
    refused x (subst (λ t. Items t more) (sym rests) y) (behind_closing _ _ last e g)
refused (o.bad_command l b x) (w.command m c y) g = command_fault_not (rw (longest_one l m).1 at x) c (fresh g c) (shallow g) (braced g) (few g)
refused {items = items} {opened = opened} (o.command {verb = v} last l b c q n a x) (w.command {items = more} m d y) g =
    let one = command_one (rw (longest_one l m).1 at c) d in
    let here = subst (λ t. MayFollow items (length opened) (t ∷ more)) (sym one.0) g in
    refused x (subst (λ t. Items t more) (sym one.1) y) (behind_command v _ _ last n here)
refused (o.unclosed {last = last} others l e) (w.nothing m) g = omega (arith, g.nests, ap length e, length-append others (last ∷ []))
refused x y g = omega (arith, kinds_one (begun x) (items_begun y))

pub fault_refuses : {size : ℕ} {text : List ℕ} {f : ScriptFault} → ItemsFault size [] [] text f → (items : List Item) → Items text items
    → length (commands_among items) ≤ 4095 → AreLabelsOnce (commands_among items) → Nests items 0 → ⊥
fault_refuses x all y few once nests = refused x y (record { few = few; once = once; nests = nests })
