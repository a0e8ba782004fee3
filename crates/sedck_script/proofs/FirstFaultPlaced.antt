-- What a first fault says of its place is so.
use Rattle.sedck_script.proofs.Common.{◌≡◌, ℕ, Bool, true, false, List, [], ◌∷◌, ◌++◌, length, take, ◌<◌, refl, ap, sym, subst, ◌∙◌, ◌+◌, inl, inr, arith, Some, Contains, NoAddress, Address, Label, Known, Item, Written, Closing, Items, VerbText, EndsIn, tail_cut, tail_tail, tail_behind, tail_length, commands_among, items_one, drop, take-append-drop, ◌-◌, slice_get, if◌then◌else◌, drop-drop, one_of, JumpTo, IsPlaced, IsOfText, IsLabelBehind, IsEmptyExpression, BeginsAt, LabelBeginsAt, EmptyEnds, EmptyPlace, AreAddresses, AddressEmpty, CommandEmpty, ScriptFault, OutOfMemory, longest_along, place_tail, LinksFault, IsFirstFault}
use Rattle.sedck_commands.specs.Items as w
use Rattle.sedck_commands.specs.FirstFaults as o
use Rattle.sedck_commands.specs.ReadItems as r
use Rattle.sedck_commands.proofs.TextEnds.{whole_from, byte_at, follows_byte}
use Rattle.sedck_commands.proofs.PlacedItems.{items_fault_placed}
use Rattle.sedck_script.specs.FirstFault as f
use Rattle.sedck_script.proofs.ProgramLemmas.{among_has}
use Rattle.sedck_script.proofs.OneLocation.{command_at}

-- ---- Labels

-- the text ends with what is left from an offset on
left_of : (whole : List ℕ) (offset : ℕ) → EndsIn whole (drop offset whole)
left_of whole offset = (take offset whole, sym (take-append-drop offset whole))

jump_listed : (tests : Bool) → one_of "bt" (if tests then 116 else 98) ≡ true
jump_listed true = refl
jump_listed false = refl

-- the byte of a branch or a test to a label
jump_byte : {text name rest : List ℕ} {tests braced : Bool} → VerbText text (JumpTo tests (Some name) braced) rest
    → (b : ℕ) × (behind : List ℕ) × (text ≡ b ∷ behind) × (one_of "bt" b ≡ true) × (0 < length name)
jump_byte {tests = tests} (w.jump {b = b} {text = behind} e l n k brace) = (b, behind, refl, rw e (jump_listed tests), l.some)

label_behind : {name rest : List ℕ} {tests braced : Bool} (whole : List ℕ) (verb offset : ℕ) → VerbText (drop verb whole) (JumpTo tests (Some name) braced) rest
    → LabelBeginsAt (length whole) (drop (verb + 1) whole) name offset → IsLabelBehind (one_of "bt") whole offset name
label_behind whole verb offset x l =
    let jump = jump_byte x in
    let behind : drop (verb + 1) whole ≡ jump.1 = sym (drop-drop 1 verb whole) ∙ ap (drop 1) jump.2 in
    let here = subst (EndsIn whole) (jump.2 ∙ ap (λ t. jump.0 ∷ t) (sym behind)) (left_of whole verb) in
    let at : BeginsAt (length whole) l.1.begins offset = omega (arith, l.2, ap length l.1.run.cut) in
    let run = longest_along (sym (whole_from offset (tail_tail (tail_behind here refl) (tail_cut l.1.skipped)) at)) l.1.run in
    (follows_byte offset here l.1.skipped at jump.3, l.0, run, jump.4)

-- the command after those in front
among_here : (front more : List Item) (a : Address) (n : Bool) (v : w.WrittenVerb)
    → slice_get (commands_among (front ++ Written a n v ∷ more)) (length (commands_among front)) ≡ Some (Written a n v)
among_here [] more a n v = refl
among_here (Written _ _ _ ∷ front) more a n v = among_here front more a n v
among_here (Closing ∷ front) more a n v = among_here front more a n v

-- ---- Empty expressions

module _ {whole : List ℕ} where
  ends_placed : {d offset : ℕ} {text : List ℕ} → EndsIn whole text → EmptyEnds (length whole) d text offset → IsEmptyExpression whole offset
  ends_placed {d} {offset} h e = (
    d,
    e.2,
    omega (arith, e.3, ap length e.1, tail_length h),
    byte_at (offset - 1) h e.1 (omega (arith, e.3, ap length e.1, tail_length h)),
    byte_at offset (tail_behind h e.1) refl e.3,
  )

  place_placed : {offset : ℕ} {text : List ℕ} → EndsIn whole text → EmptyPlace (length whole) text offset → IsEmptyExpression whole offset
  place_placed h (inl e) = ends_placed h e
  place_placed h (inr e) = ends_placed (tail_behind h e.2) e.3

  second_tail : {text second : List ℕ} → EndsIn whole text → o.IsAfterComma text second → EndsIn whole second
  second_tail h c = tail_tail (tail_behind (tail_tail h (tail_cut c.before)) refl) (tail_cut c.after)

  addresses_tail : {text behind : List ℕ} {a : Address} → EndsIn whole text → AreAddresses text a behind → EndsIn whole behind
  addresses_tail h (o.none n) = h
  addresses_tail h (o.one x n) = tail_tail h (place_tail x)
  addresses_tail h (o.two x c y) = tail_tail (second_tail (tail_tail h (place_tail x)) c) (place_tail y)

  address_placed : {offset : ℕ} {text : List ℕ} → EndsIn whole text → AddressEmpty (length whole) text offset → IsEmptyExpression whole offset
  address_placed h (r.first e) = place_placed h e
  address_placed h (r.second x free c e) = place_placed (second_tail (tail_tail h (place_tail x)) c) e

  empty_placed : {offset : ℕ} {text : List ℕ} → EndsIn whole text → CommandEmpty (length whole) text offset → IsEmptyExpression whole offset
  empty_placed h (r.of_address e) = address_placed h e
  empty_placed h (r.of_verb x free l e) = ends_placed (tail_behind (tail_tail (addresses_tail h x) (tail_cut l)) e.2) e.3

-- ---- All of them

links_placed : {text : List ℕ} {items : List Item} {fault : ScriptFault} (x : Items text items) → LinksFault text items x fault → IsPlaced text fault
links_placed {text} {items} x (f.label {offset = offset} {name = name} {location = location} front more item cut to lost all s l) =
    let k = length (commands_among front) in
    let at = command_at text x k ([], refl) s in
    let jump = JumpTo to.2 (Some name) to.3 in
    let here = ap (λ t. slice_get (commands_among t) k) (cut ∙ ap (λ i. front ++ i ∷ more) to.4) ∙ among_here front more to.0 to.1 jump in
    let same : at.2 ≡ jump = cc (at.4, here) in (
      name,
      label_behind text location.verb offset (subst (λ v. VerbText (drop location.verb text) v at.3) same at.6) l,
      λ others y has. lost (among_has items name (subst (λ t. Contains t (Written NoAddress false (Known (Label name)))) (items_one y x) has)),
    )
links_placed {text} x (f.expression {location = location} front more empty all none cut free s e) = empty_placed (left_of text location.start) e

pub first_fault_placed : {text : List ℕ} {fault : ScriptFault} → IsFirstFault text fault → IsPlaced text fault
first_fault_placed (f.too_long long) = (refl, long)
first_fault_placed (f.zero fits z) = (z, fits)
first_fault_placed (f.items is x) = items_fault_placed x
first_fault_placed (f.links is has x) = links_placed has.spelled x

-- what is no first fault is that memory ran out
pub fault_placed : (text : List ℕ) (fault : ScriptFault) → (IsOfText fault → IsFirstFault text fault) → IsPlaced text fault
fault_placed text OutOfMemory first = tt
fault_placed text fault first = first_fault_placed (first (λ memory. cc memory))
