-- Items that resolve to commands close each block; and their labels are at their commands.
use Rattle.sedck_script.proofs.Common.{◌≡◌, ◌↔◌, ℕ, Bool, true, false, cond, zero, suc, List, [], ◌∷◌, ◌++◌, length, Some, refl, ap, sym, ◌∙◌, arith, NoAddress, Label, Branch, Test, Command, Known, Item, Written, Closing, Defines, AreLabelsDistinct, Resolves, done, known, jump, opening, closing, ResolvesIn, commands_among, Turned, Nests, Narrowings, IsLabelOf, AreLabelsOnce, Turn, Opens, Closes, Stays, Jumps, turn_of}

pub resolves_nests : {A cs : List Command} {blocks : List ℕ} {place : ℕ} {items : List Item} → Resolves A blocks place items cs → Nests items (length blocks)
resolves_nests done = refl
resolves_nests (known r) = resolves_nests r
resolves_nests (jump t may h r) = (may, resolves_nests r)
resolves_nests (opening h r) = (h, resolves_nests r)
resolves_nests (closing h r) = resolves_nests r

pub resolves_length : {asks : Narrowings} {A cs : List Command} {blocks : List ℕ} {place : ℕ} {items : List Item} → ResolvesIn asks A blocks place items cs
    → length cs ≡ length (commands_among items)
resolves_length done = refl
resolves_length (known r) = ap suc (resolves_length r)
resolves_length (jump t may h r) = ap suc (resolves_length r)
resolves_length (opening h r) = ap suc (resolves_length r)
resolves_length (closing h r) = resolves_length r

-- ---- Depths

turned_one : (t : Turn) (P : ℕ → Type 0) → ((d e : ℕ) → P d → P e → d ≡ e) → (d e : ℕ) → Turned t P d → Turned t P e → d ≡ e
turned_one Opens P one d e h k = omega (arith, one (suc d) (suc e) h.1 k.1)
turned_one Closes P one zero e h k = absurd h
turned_one Closes P one (suc d) zero h k = absurd k
turned_one Closes P one (suc d) (suc e) h k = ap suc (one d e h k)
turned_one Stays P one d e h k = one d e h k
turned_one (Jumps braced) P one d e h k = one d e h.1 k.1

-- items close one number of blocks
pub nests_one : (items : List Item) (d e : ℕ) → Nests items d → Nests items e → d ≡ e
nests_one [] d e h k = h ∙ sym k
nests_one (x ∷ items) d e h k = turned_one (turn_of x) (Nests items) (nests_one items) d e h k

turned_some : (t : Turn) (P : ℕ → Type 0) (d : ℕ) → Turned t P d → (e : ℕ) × P e
turned_some Opens P d h = (suc d, h.1)
turned_some Closes P zero h = absurd h
turned_some Closes P (suc d) h = (d, h)
turned_some Stays P d h = (d, h)
turned_some (Jumps braced) P d h = (d, h.1)

-- an end of items that nest nests
pub nests_behind : (front items : List Item) (d : ℕ) → Nests (front ++ items) d → (e : ℕ) × Nests items e
nests_behind [] items d h = (d, h)
nests_behind (x ∷ front) items d h = let one = turned_some (turn_of x) (Nests (front ++ items)) d h in nests_behind front items one.0 one.1

-- ---- Labels

-- the command of an item whose verb has no target
abbrev plain_command : Item → Command
plain_command (Written a n (Known v)) = record { address = a; negated = n; verb = v }
plain_command (Written a n v) = record { address = a; negated = n; verb = Branch 0 }
plain_command Closing = record { address = NoAddress; negated = false; verb = Branch 0 }

label_command : {x : Item} {name : List ℕ} → Some x ≡ Some (Written NoAddress false (Known (Label name)))
    → plain_command x ≡ record { address = NoAddress; negated = false; verb = Label name }
label_command {x} {name} e = let same : x ≡ Written NoAddress false (Known (Label name)) = cc e in ap plain_command same

verbs_same : {c d : Command} → Some c ≡ Some d → c.verb ≡ d.verb
verbs_same {c} {d} h = let same : c ≡ d = cc h in ap (λ x. x.verb) same

no_jump_label : (tests : Bool) (target : ℕ) {name : List ℕ} → cond tests (Test target) (Branch target) ≡ Label name → ⊥
no_jump_label true target e = cc e
no_jump_label false target e = cc e

written_same : {c d : Command} → Some c ≡ Some d → Some (Written c.address c.negated (Known c.verb)) ≡ Some (Written d.address d.negated (Known d.verb))
written_same {c} {d} h = let same : c ≡ d = cc h in ap (λ x. Some (Written x.address x.negated (Known x.verb))) same

-- a label's item becomes the command that defines it, and no other does
label_same : {asks : Narrowings} {A cs : List Command} {blocks : List ℕ} {place : ℕ} {items : List Item} → ResolvesIn asks A blocks place items cs
    → (name : List ℕ) (i : ℕ)
    → IsLabelOf (commands_among items) name i ↔ Defines cs name i
label_same done name i = (λ h. absurd (cc h), λ h. absurd (cc h))
label_same (known r) name zero = (λ h. ap Some (label_command h), λ h. written_same h)
label_same (jump {tests = tests} t may x r) name zero = (λ h. absurd (cc h), λ h. absurd (no_jump_label tests t (verbs_same h)))
label_same (opening x r) name zero = (λ h. absurd (cc h), λ h. absurd (cc (verbs_same h)))
label_same (known r) name (suc i) = label_same r name i
label_same (jump t may x r) name (suc i) = label_same r name i
label_same (opening x r) name (suc i) = label_same r name i
label_same (closing x r) name i = label_same r name i

pub label_defined : {asks : Narrowings} {A cs : List Command} {blocks : List ℕ} {place : ℕ} {items : List Item} → ResolvesIn asks A blocks place items cs
    → (name : List ℕ) (i : ℕ) → IsLabelOf (commands_among items) name i → Defines cs name i
label_defined r name i h = (label_same r name i).0 h

pub label_written : {asks : Narrowings} {A cs : List Command} {blocks : List ℕ} {place : ℕ} {items : List Item} → ResolvesIn asks A blocks place items cs
    → (name : List ℕ) (i : ℕ) → Defines cs name i → IsLabelOf (commands_among items) name i
label_written r name i h = (label_same r name i).1 h

-- the labels of commands are distinct where those of their items are once, and the other way round
pub labels_once : {A cs : List Command} {blocks : List ℕ} {place : ℕ} {items : List Item} → Resolves A blocks place items cs → AreLabelsDistinct cs
    → AreLabelsOnce (commands_among items)
labels_once r d name i j h k = d name i j (label_defined r name i h) (label_defined r name j k)

-- ---- A list of commands that has the labels of the items

abbrev pub plain_commands : List Item → List Command
plain_commands [] = []
plain_commands (x ∷ items) = plain_command x ∷ plain_commands items

pub plain_length : (items : List Item) → length (plain_commands items) ≡ length items
plain_length [] = refl
plain_length (x ∷ items) = ap suc (plain_length items)

pub plain_label : (items : List Item) (name : List ℕ) (i : ℕ) → IsLabelOf items name i → Defines (plain_commands items) name i
plain_label [] name i h = absurd (cc h)
plain_label (x ∷ items) name zero h = ap Some (label_command h)
plain_label (x ∷ items) name (suc i) h = plain_label items name i h
