-- A text has one first fault at most.
use Rattle.sedck_commands.proofs.Common.{◌≡◌, ◌≢◌, ℕ, ◌<◌, ◌≤◌, Bool, true, false, not, List, [], ◌∷◌, ◌++◌, length, Option, refl, ap, sym, ◌∙◌, subst, subst₂, ◌||◌, cond, arith, eqb, list_any, false≢true, both_ways, not-true, length-append, is_in, verb_bytes, is_separator, IsEmptyOr, Longest, Address, WrittenVerb, JumpTo, Opening, Takes, VerbText, CommandText, Item, is_mark, Turn, Opens, Closes, Stays, Jumps, verb_turn, BeginsCommand, ScriptFault, longest_one, ne_eqb, turn_of, AreAddresses, takes, CheckFault, MayGoOn, CommandFault, NotesBlock, ItemsFault, UnknownCommand, TooManyAddresses, TooDeep, TooManyCommands, BadLabel, UnopenedBlock, UnclosedBlock}
use Rattle.sedck_commands.specs.FirstFaults as o
use Rattle.sedck_commands.proofs.FirstBytes.{heads, tails}
use Rattle.sedck_commands.proofs.UniqueParts.{ends_one}
use Rattle.sedck_commands.proofs.UniqueVerbs.{verb_one}
use Rattle.sedck_commands.proofs.UniqueItems.{longest_along, command_one}
use Rattle.sedck_commands.proofs.OffsetLemmas.{verb_takes}
use Rattle.sedck_commands.proofs.VerbBytes.{byte_of}
use Rattle.sedck_commands.proofs.OneFaultEnds.{at_one, end_one, end_not, comment_one, comment_not}
use Rattle.sedck_commands.proofs.OneFaultParts.{OneCause}
use Rattle.sedck_commands.proofs.OneFaultAddresses.{address_fault_one, address_fault_not, are_addresses_one, all_addresses}
use Rattle.sedck_commands.proofs.OneFaultLabels.{IsFresh}
use Rattle.sedck_commands.proofs.OneFaultVerbs.{verb_fault_one, verb_fault_not}

-- ---- What is checked at a verb

-- no verb begins the text
no_verb_byte : {b : ℕ} {text behind : List ℕ} → IsEmptyOr (λ c. not (is_in c verb_bytes)) text → text ≡ b ∷ behind → is_in b verb_bytes ≡ true → ⊥
no_verb_byte {b} h e k = both_ways (is_in b verb_bytes) (not-true _ (subst (λ t. IsEmptyOr (λ c. not (is_in c verb_bytes)) t) e h)) k

-- a byte that takes these addresses, and doesn't
taken_both : {b c : ℕ} {text s t : List ℕ} (a : Address) (n : Bool) → text ≡ b ∷ s → takes b a n ≡ false → text ≡ c ∷ t → takes c a n ≡ true → ⊥
taken_both a n e h i k = false≢true (sym h ∙ ap (λ d. takes d a n) (heads (sym e ∙ i)) ∙ k)

pub check_fault_one : {size depth count : ℕ} {address : Address} {negated : Bool} {text : List ℕ} {f g : ScriptFault}
    → CheckFault size address negated depth count text f → CheckFault size address negated depth count text g → f ≡ g
check_fault_one (o.unknown h a) (o.unknown i b) = ap UnknownCommand (at_one refl a b)
check_fault_one (o.unknown h a) (o.addresses i k t b) = absurd (no_verb_byte h i k)
check_fault_one (o.unknown h a) (o.deep i d b) = absurd (no_verb_byte h i refl)
check_fault_one (o.unknown h a) (o.many i k t s m b) = absurd (no_verb_byte h i k)
check_fault_one (o.addresses i k t b) (o.unknown h a) = absurd (no_verb_byte h i k)
check_fault_one (o.deep i d b) (o.unknown h a) = absurd (no_verb_byte h i refl)
check_fault_one (o.many i k t s m b) (o.unknown h a) = absurd (no_verb_byte h i k)
check_fault_one (o.addresses e k t a) (o.addresses i l u b) = ap TooManyAddresses (at_one refl a b)
check_fault_one (o.addresses e k t a) (o.deep i d b) = absurd (taken_both _ _ e t i refl)
check_fault_one (o.addresses e k t a) (o.many i l u s m b) = absurd (taken_both _ _ e t i u)
check_fault_one (o.deep i d b) (o.addresses e k t a) = absurd (taken_both _ _ e t i refl)
check_fault_one (o.many i l u s m b) (o.addresses e k t a) = absurd (taken_both _ _ e t i u)
check_fault_one (o.deep e d a) (o.deep i c b) = ap TooDeep (at_one refl a b)
check_fault_one (o.deep e d a) (o.many i k t s m b) = absurd (omega (arith, d, s (heads (sym i ∙ e))))
check_fault_one (o.many i k t s m b) (o.deep e d a) = absurd (omega (arith, d, s (heads (sym i ∙ e))))
check_fault_one (o.many e k t s m a) (o.many i l u r n b) = ap TooManyCommands (at_one refl a b)

check_not : {size depth count : ℕ} {address : Address} {negated : Bool} {text : List ℕ} {f : ScriptFault}
    → CheckFault size address negated depth count text f → MayGoOn address negated depth count text → ⊥
check_not (o.unknown h a) g = no_verb_byte h g.cut g.verb
check_not (o.addresses e k t a) g = taken_both _ _ e t g.cut g.taken
check_not (o.deep e d a) g = omega (arith, d, g.shallow (heads (sym g.cut ∙ e)))
check_not (o.many e k t s m a) g = omega (arith, m, g.few)

-- a verb that is read after these addresses, where so many blocks are open and so many commands are before it, may go on
goes_on : {depth count : ℕ} {address : Address} {negated : Bool} {text rest : List ℕ} {verb : WrittenVerb} → VerbText text verb rest
    → Takes verb address negated → (verb ≡ Opening → depth < 64) → count < 4095 → MayGoOn address negated depth count text
goes_on {address = a} {negated = n} x t s m =
    let first = verb_takes x in
    let byte = byte_of first.2 x in
    record { b = first.0; behind = first.1; cut = first.2; verb = byte.known; taken = byte.taken_so a n t; shallow = λ e. s (byte.opens e); few = m }

-- ---- Commands

verb_starts : {text r s m k begins starts : List ℕ} {a c : Address} → AreAddresses text a r → Longest is_mark r m begins → AreAddresses text c s
    → Longest is_mark s k starts → (a ≡ c) × (m ≡ k) × (begins ≡ starts)
verb_starts x l y i =
    let addresses = are_addresses_one x y in
    let marks = longest_one (longest_along addresses.1 l) i in
    (addresses.0, marks.0, marks.1)

jump_fresh : (IsDefined : List ℕ → Type 0) {tests braced : Bool} {label : Option (List ℕ)} → IsFresh IsDefined (JumpTo tests label braced)
jump_fresh IsDefined name e known = absurd (cc e)

pub command_fault_one : {size depth count : ℕ} {IsDefined : List ℕ → Type 0} {text : List ℕ} {f g : ScriptFault} → OneCause
    → CommandFault size IsDefined depth count text f → CommandFault size IsDefined depth count text g → f ≡ g
command_fault_one one (o.addresses x) (o.addresses y) = address_fault_one one x y
command_fault_one one (o.addresses x) (o.check a m y) = absurd (address_fault_not x a)
command_fault_one one (o.addresses x) (o.verb a m g y) = absurd (address_fault_not x a)
command_fault_one one (o.addresses x) (o.brace a m g v d b) = absurd (address_fault_not x a)
command_fault_one one (o.check a m y) (o.addresses x) = absurd (address_fault_not x a)
command_fault_one one (o.verb a m g y) (o.addresses x) = absurd (address_fault_not x a)
command_fault_one one (o.brace a m g v d b) (o.addresses x) = absurd (address_fault_not x a)
command_fault_one one (o.check a m x) (o.check b k y) =
    let same = verb_starts a m b k in check_fault_one (rw (same.0, same.1, same.2) at x) y
command_fault_one one (o.check a m x) (o.verb b k g y) = let same = verb_starts a m b k in absurd (check_not (rw (same.0, same.1, same.2) at x) g)
command_fault_one one (o.check a m x) (o.brace b k g v d at) = let same = verb_starts a m b k in absurd (check_not (rw (same.0, same.1, same.2) at x) g)
command_fault_one one (o.verb b k g y) (o.check a m x) = let same = verb_starts a m b k in absurd (check_not (rw (same.0, same.1, same.2) at x) g)
command_fault_one one (o.brace b k g v d at) (o.check a m x) = let same = verb_starts a m b k in absurd (check_not (rw (same.0, same.1, same.2) at x) g)
command_fault_one one (o.verb a m g x) (o.verb b k h y) = verb_fault_one one (rw (verb_starts a m b k).2 at x) y
command_fault_one one (o.verb a m g x) (o.brace b k h v d at) = absurd (verb_fault_not (rw (verb_starts a m b k).2 at x) v (jump_fresh _))
command_fault_one one (o.brace b k h v d at) (o.verb a m g x) = absurd (verb_fault_not (rw (verb_starts a m b k).2 at x) v (jump_fresh _))
command_fault_one one (o.brace a m g v d x) (o.brace b k h w c y) =
    ap BadLabel (at_one (verb_one (rw (verb_starts a m b k).2 at v) w).1 x y)

pub command_fault_not : {size depth count : ℕ} {IsDefined : List ℕ → Type 0} {text rest : List ℕ} {a : Address} {n : Bool} {verb : WrittenVerb}
    {f : ScriptFault} → CommandFault size IsDefined depth count text f → CommandText text a n verb rest → IsFresh IsDefined verb
    → (verb ≡ Opening → depth < 64) → ((tests : Bool) (label : Option (List ℕ)) → verb ≡ JumpTo tests label true → depth ≤ 1) → count < 4095 → ⊥
command_fault_not (o.addresses x) y fresh shallow braced few = address_fault_not x (all_addresses y.addresses y.run y.verbs)
command_fault_not {n = n} (o.check {marks = marks} a m x) y fresh shallow braced few =
    let same = verb_starts (all_addresses y.addresses y.run y.verbs) y.run a m in
    let go = goes_on (rw same.2 at y.verbs) (rw (same.0, y.mark ∙ ap (list_any (λ b. eqb b 33)) same.1) at y.taken) shallow few in
    check_not x go
command_fault_not (o.verb a m g x) y fresh shallow braced few =
    verb_fault_not x (rw (verb_starts (all_addresses y.addresses y.run y.verbs) y.run a m).2 at y.verbs) fresh
command_fault_not (o.brace a m g v d at) y fresh shallow braced few =
    let verbs = verb_one (rw (verb_starts (all_addresses y.addresses y.run y.verbs) y.run a m).2 at y.verbs) v in
    omega (arith, d, braced _ _ verbs.0)

-- ---- Items

-- the last of a list, and those before it
last_one : {A : Type 0} (xs ys : List A) (x y : A) → xs ++ x ∷ [] ≡ ys ++ y ∷ [] → (xs ≡ ys) × (x ≡ y)
last_one [] [] x y e = (refl, cc e)
last_one [] (b ∷ ys) x y e = absurd (omega (arith, ap length e, length-append ys (y ∷ [])))
last_one (a ∷ xs) [] x y e = absurd (omega (arith, ap length e, length-append xs (x ∷ [])))
last_one (a ∷ xs) (b ∷ ys) x y e =
    let first : a ≡ b = cc e in
    let more : xs ++ x ∷ [] ≡ ys ++ y ∷ [] = cc e in
    let last = last_one xs ys x y more in (λ i. first i ∷ last.0 i, last.1)

-- what begins after the separators: a comment, the end of a block, or a command as 1, and 0 for the end of the text
abbrev pub head_kind : List ℕ → ℕ
head_kind [] = 0
head_kind (b ∷ text) = cond (eqb b 35 || eqb b 125) b 1

abbrev pub kind_of : {size : ℕ} {items : List Item} {opened text : List ℕ} {f : ScriptFault} → ItemsFault size items opened text f → ℕ
kind_of (o.bad_comment l x) = 35
kind_of (o.unopened l none a) = 125
kind_of (o.bad_end l some x) = 125
kind_of (o.bad_command l b x) = 1
kind_of (o.unclosed others l e) = 0
kind_of (o.comment l k n x) = 35
kind_of (o.closing last l e k x) = 125
kind_of (o.command last l b c w n a x) = 1

-- where the separators end
abbrev pub Begun : List ℕ → ℕ → Type 0
Begun text kind = (separators begins : List ℕ) × Longest is_separator text separators begins × (head_kind begins ≡ kind)

pub other_kind : (b : ℕ) → b ≢ 35 → b ≢ 125 → head_kind (b ∷ []) ≡ 1
other_kind b h i = rw (ne_eqb b 35 h, ne_eqb b 125 i) refl

command_kind : {begins : List ℕ} → BeginsCommand begins → head_kind begins ≡ 1
command_kind b = ap head_kind b.2 ∙ other_kind b.0 b.4 b.5

pub begun : {size : ℕ} {items : List Item} {opened text : List ℕ} {f : ScriptFault} (x : ItemsFault size items opened text f) → Begun text (kind_of x)
begun (o.bad_comment l x) = (_, _, l, refl)
begun (o.unopened l none a) = (_, _, l, refl)
begun (o.bad_end l some x) = (_, _, l, refl)
begun (o.bad_command l b x) = (_, _, l, command_kind b)
begun (o.unclosed others l e) = (_, _, l, refl)
begun (o.comment l k n x) = (_, _, l, refl)
begun (o.closing last l e k x) = (_, _, l, refl)
begun (o.command last l b c w n a x) = (_, _, l, command_kind b)

pub kinds_one : {text : List ℕ} {m n : ℕ} → Begun text m → Begun text n → m ≡ n
kinds_one x y = sym x.3 ∙ ap head_kind (longest_one x.2 y.2).1 ∙ y.3

noted_one : {new other : List ℕ} (turn : Turn) (old : List ℕ) (place : ℕ) → NotesBlock turn old new place → NotesBlock turn old other place → new ≡ other
noted_one Opens old place h i = h ∙ sym i
noted_one Closes old place h i = h ∙ sym i
noted_one Stays old place h i = h ∙ sym i
noted_one (Jumps braced) old place h i = h ∙ sym i

none_opened : {opened : List ℕ} (others : List ℕ) (last : ℕ) → length opened ≡ 0 → opened ≡ others ++ last ∷ [] → ⊥
none_opened others last none e = omega (arith, none, ap length e, length-append others (last ∷ []))

pub faults_are_one : {size : ℕ} {items : List Item} {opened text : List ℕ} {f g : ScriptFault} → OneCause → ItemsFault size items opened text f
    → ItemsFault size items opened text g → f ≡ g
faults_are_one one (o.bad_comment l x) (o.bad_comment m y) = comment_one (rw (tails (longest_one l m).1) at x) y
faults_are_one one (o.bad_comment l x) (o.comment m k n y) = absurd (comment_not (rw (tails (longest_one l m).1) at x) k n)
faults_are_one one (o.comment m k n y) (o.bad_comment l x) = absurd (comment_not (rw (tails (longest_one l m).1) at x) k n)
faults_are_one one (o.comment l k n x) (o.comment m j i y) =
    let lines = longest_one (longest_along (tails (longest_one l m).1) k) j in faults_are_one one (rw lines.1 at x) y
faults_are_one one (o.unopened l none a) (o.unopened m empty b) = ap UnopenedBlock (at_one (longest_one l m).1 a b)
faults_are_one one (o.unopened l none a) (o.bad_end m some y) = absurd (omega (arith, none, some))
faults_are_one one (o.unopened l none a) (o.closing last m e k y) = absurd (none_opened _ _ none e)
faults_are_one one (o.bad_end m some y) (o.unopened l none a) = absurd (omega (arith, none, some))
faults_are_one one (o.closing last m e k y) (o.unopened l none a) = absurd (none_opened _ _ none e)
faults_are_one one (o.bad_end l some x) (o.bad_end m more y) = end_one (rw (tails (longest_one l m).1) at x) y
faults_are_one one (o.bad_end l some x) (o.closing last m e k y) = absurd (end_not (rw (tails (longest_one l m).1) at x) k)
faults_are_one one (o.closing last m e k y) (o.bad_end l some x) = absurd (end_not (rw (tails (longest_one l m).1) at x) k)
faults_are_one one (o.closing {others = others} last l e k x) (o.closing {others = others'} last' m h j y) =
    let blocks = (last_one others others' last last' (sym e ∙ h)).0 in
    let rests = ends_one (rw (tails (longest_one l m).1) at k) j in
    faults_are_one one (rw (blocks, rests) at x) y
faults_are_one one (o.bad_command l b x) (o.bad_command m c y) = command_fault_one one (rw (longest_one l m).1 at x) y
faults_are_one one (o.bad_command l b x) (o.command last m c k w n a y) =
    absurd (command_fault_not (rw (longest_one l m).1 at x) k w.fresh w.shallow w.braced w.few)
faults_are_one one (o.command last m c k w n a y) (o.bad_command l b x) =
    absurd (command_fault_not (rw (longest_one l m).1 at x) k w.fresh w.shallow w.braced w.few)
faults_are_one {size} {items} {opened} {f = f} one (o.command {now = now} {rest = rest} {verb = verb} last l b c w n a x)
    (o.command {now = now'} {rest = rest'} {verb = verb'} last' m b' c' w' n' a' y) =
    let commands = command_one (rw (longest_one l m).1 at c) c' in
    let places : last ≡ last' = omega (arith, at_one commands.1 a a') in
    let turns : verb_turn verb ≡ verb_turn verb' = ap turn_of commands.0 in
    let blocks = noted_one (verb_turn verb') _ _ (subst₂ (λ t k. NotesBlock t opened now k) turns places n) n' in
    faults_are_one one (subst₂ (λ t r. ItemsFault size t now' r f) (ap (λ t. items ++ t ∷ []) commands.0) commands.1 (rw blocks at x)) y
faults_are_one one (o.unclosed others l e) (o.unclosed others' m h) = ap UnclosedBlock (last_one others others' _ _ (sym e ∙ h)).1
faults_are_one one x y = absurd (omega (arith, kinds_one (begun x) (begun y)))
