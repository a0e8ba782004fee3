-- What is at the offset of a fault of a verb, a command or items.
use Rattle.sedck_commands.proofs.Common.{All, ascii, ◌≡◌, ℕ, ◌+◌, Bool, true, not, List, [], ◌∷◌, ◌++◌, Option, Some, length, refl, ap, sym, subst, length-append, arith, All-push, begins, is_label_byte, IsEmptyOr, Longest, Address, AddressText, WrittenVerb, Known, JumpTo, Opening, VerbText, Item, is_mark, verb_turn, BeginsCommand, StandsAt, EndsOrFails, IsPlaced, EndsIn, ScriptFault, All-pop, All-nil, FollowsLabel, BeginsAt, IsLabelAt, AreAddresses, VerbFault, CheckFault, CommandFault, NotesBlock, ItemsFault}
use Rattle.sedck_commands.specs.Parts as p
use Rattle.sedck_commands.specs.Items as w
use Rattle.sedck_commands.specs.Faults.{IsVerbDue}
use Rattle.sedck_commands.specs.FirstFaults as o
use Rattle.sedck_commands.proofs.OffsetLemmas.{tail_cut, tail_tail, tail_behind, ends_tail, verb_text_tail}
use Rattle.sedck_commands.proofs.TextEnds.{whole_from, byte_at, fails_at}
use Rattle.sedck_commands.proofs.VerbBytes.{not_taken}
use Rattle.sedck_commands.proofs.CommandLemmas.{address_tail}
use Rattle.sedck_commands.proofs.FaultLemmas3.{brace_first, jump_listed}
use Rattle.sedck_commands.proofs.PlacedEnds.{end_placed, comment_placed, text_placed, name_placed}
use Rattle.sedck_commands.proofs.PlacedAddresses.{address_placed}
use Rattle.sedck_commands.proofs.PlacedFlags.{substitution_placed, transliteration_placed}
use Rattle.sedck_commands.proofs.PlacedLabels.{label_over, label_placed, listed_jump, jump_placed}

-- ---- Verbs

pub verb_placed : {whole text : List ℕ} {IsDefined : List ℕ → Type 0} {f : ScriptFault} → EndsIn whole text → VerbFault (length whole) IsDefined text f
    → IsPlaced whole f
verb_placed h (o.simple e s x) = end_placed (tail_behind h e) x
verb_placed h (o.no_text e listed a x) = text_placed h e listed a x
verb_placed h (o.no_name e listed a x) = name_placed h e listed a x
verb_placed h (o.label e x) = label_placed h e x
verb_placed h (o.jump e listed x) = jump_placed h e listed x
verb_placed h (o.substitution e a x) = substitution_placed h e a x
verb_placed h (o.transliteration e a x) = transliteration_placed h e a x

pub check_placed : {whole text : List ℕ} {address : Address} {negated : Bool} {depth count : ℕ} {f : ScriptFault} → EndsIn whole text
    → ((offset : ℕ) → BeginsAt (length whole) text offset → IsVerbDue whole offset) → CheckFault (length whole) address negated depth count text f
    → IsPlaced whole f
check_placed h due (o.unknown none a) = (due _ a, fails_at _ h none a)
check_placed {address = address} {negated = negated} h due (o.addresses {b = b} e k t a) = (b, byte_at _ h e a, not_taken b address negated t)
check_placed h due (o.deep e d a) = byte_at _ h e a
check_placed h due (o.many {b = b} e k t s m a) = (b, byte_at _ h e a, k)

-- ---- Commands

are_read : {text behind : List ℕ} {address : Address} → AreAddresses text address behind → AddressText text address behind
are_read (o.none n) = p.none
are_read (o.one x n) = p.one x
are_read (o.two x c y) = p.two x c.before refl c.after y

verb_end : {whole text behind marks begins : List ℕ} {address : Address} → EndsIn whole text → AddressText text address behind
    → Longest is_mark behind marks begins → EndsIn whole begins
verb_end h a m = tail_tail h (tail_tail (address_tail a) (tail_cut m))

due_there : {whole text behind marks begins : List ℕ} {address : Address} → EndsIn whole text → BeginsCommand text → AreAddresses text address behind
    → Longest is_mark behind marks begins → (offset : ℕ) → BeginsAt (length whole) begins offset → IsVerbDue whole offset
unfolding IsVerbDue
due_there {whole} {text} {behind} {marks} {address = address} h k a m offset at =
    let start : BeginsAt (length whole) text (length h.0) = omega (arith, ap length h.1, length-append h.0 text) in
    let here = whole_from (length h.0) h start in
    (length h.0, address, behind, marks, rw here k, rw here (are_read a), rw (whole_from offset (verb_end h (are_read a) m) at) m)

brace_no_label : (text : List ℕ) → begins "}" text ≡ true → IsEmptyOr (λ b. not (is_label_byte b)) text
brace_no_label [] h = tt
brace_no_label (b ∷ text) h = grind (arith, h)

-- a `}` right after a label
brace_placed : {whole text rest : List ℕ} {tests : Bool} {label : Option (List ℕ)} (offset : ℕ) → EndsIn whole text
    → VerbText text (JumpTo tests label true) rest → BeginsAt (length whole) rest offset → FollowsLabel whole offset × EndsOrFails is_label_byte whole offset
brace_placed {tests = tests} offset h (w.jump {b = b} {text = text} {name = name} {behind = behind} e l n k brace) a =
    let label : IsLabelAt text name behind = record { blanks = l.blanks; begins = l.begins; skipped = l.skipped; run = l.run } in
    label_over offset h refl label (listed_jump b (rw e (jump_listed tests))) (omega (arith, a, brace_first behind (sym brace) k))
brace_placed {rest = rest} {tests = tests} offset h (w.jump_to_end {b = b} {text = text} e n k brace) a =
    let none : Longest is_label_byte rest [] rest = record { cut = refl; passes = refl; stops = brace_no_label rest (sym brace) } in
    let label : IsLabelAt text [] rest = record { blanks = k.blanks; begins = rest; skipped = k.run; run = none } in
    label_over offset h refl label (listed_jump b (rw e (jump_listed tests))) a

pub command_placed : {whole text : List ℕ} {IsDefined : List ℕ → Type 0} {depth count : ℕ} {f : ScriptFault} → EndsIn whole text → BeginsCommand text
    → CommandFault (length whole) IsDefined depth count text f → IsPlaced whole f
command_placed h k (o.addresses x) = address_placed h x
command_placed h k (o.check a m x) = check_placed (verb_end h (are_read a) m) (due_there h k a m) x
command_placed h k (o.verb a m g x) = verb_placed (verb_end h (are_read a) m) x
command_placed h k (o.brace a m g v d at) = brace_placed _ (verb_end h (are_read a) m) v at

-- ---- Items

-- a `{` is at each of the offsets
abbrev pub AreOpen : List ℕ → List ℕ → Type 0
AreOpen whole places = All (λ place. StandsAt whole place (ascii "{")) places

-- the blocks that are open after a command
noted_open : {whole text rest : List ℕ} (verb : WrittenVerb) (opened now : List ℕ) (last : ℕ) → EndsIn whole text → VerbText text verb rest
    → BeginsAt (length whole) rest (last + 1) → NotesBlock (verb_turn verb) opened now last → AreOpen whole opened → AreOpen whole now
noted_open {whole} (Known verb) opened now last h x a n all = subst (AreOpen whole) (sym n) all
noted_open {whole} (JumpTo tests label braced) opened now last h x a n all = subst (AreOpen whole) (sym n) all
noted_open {whole} Opening opened now last h (w.opening {rest = rest} e) a n all =
    let here = byte_at last h (ap (λ b. b ∷ rest) e) (omega (arith, a)) in
    subst (AreOpen whole) (sym n) (All-push (λ place. StandsAt whole place 123) opened last all here)

-- the last of the blocks that are open
last_open : (whole : List ℕ) {opened : List ℕ} (others : List ℕ) (last : ℕ) → opened ≡ others ++ last ∷ [] → AreOpen whole opened
    → AreOpen whole others × StandsAt whole last 123
last_open whole {opened} others last e all = All-pop (λ place. StandsAt whole place 123) opened others (Some last) e all

pub items_placed : {whole text : List ℕ} {items : List Item} {opened : List ℕ} {f : ScriptFault} → EndsIn whole text
    → AreOpen whole opened → ItemsFault (length whole) items opened text f → IsPlaced whole f
items_placed h all (o.bad_comment l x) = comment_placed (tail_behind (tail_tail h (tail_cut l)) refl) x
items_placed h all (o.unopened l none a) = byte_at _ (tail_tail h (tail_cut l)) refl a
items_placed h all (o.bad_end l some x) = end_placed (tail_behind (tail_tail h (tail_cut l)) refl) x
items_placed h all (o.bad_command l k x) = command_placed (tail_tail h (tail_cut l)) k x
items_placed {whole} h all (o.unclosed {last = last} others l e) = (last_open whole others last e all).1
items_placed h all (o.comment l k n x) = items_placed (tail_tail (tail_behind (tail_tail h (tail_cut l)) refl) (tail_cut k)) all x
items_placed {whole} h all (o.closing {others = others} last l e k x) =
    items_placed (tail_tail (tail_behind (tail_tail h (tail_cut l)) refl) (ends_tail k)) (last_open whole others last e all).0 x
items_placed {opened = opened} h all (o.command {now = now} {verb = verb} last l b c g n a x) =
    let here = verb_end (tail_tail h (tail_cut l)) c.addresses c.run in
    items_placed (tail_tail here (verb_text_tail c.verbs)) (noted_open verb opened now last here c.verbs a n all) x

-- the law: a first fault is placed
pub items_fault_placed : {text : List ℕ} {f : ScriptFault} → ItemsFault (length text) [] [] text f → IsPlaced text f
items_fault_placed {text} x = items_placed ([], refl) (All-nil (λ place. StandsAt text place 123)) x
