-- A text has one first fault at most, and spells no script where it has one.
use Rattle.sedck_script.proofs.Common.{◌≡◌, ℕ, ◌<◌, true, false, List, [], ◌∷◌, ◌++◌, length, flat_map, Some, Contains, refl, ap, ap₂, sym, subst, append-nil, ◌∙◌, inl, inr, arith, zero, suc, false≢true, Contains-append_right, Program, Command, Items, Item, Written, Closing, Resolves, done, known, jump, opening, closing, LeadsTo, Defines, Spells, commands_among, has_previous, item_patterns, items_one, patterns, pattern_expressions, drop, slice_get, get_or-take, length-take-le, slice_get_within, get_or_from_slice_get, locations_of, IsFirstZero, StandsAt, LabelBeginsAt, patterns_of, CommandEmpty, ScriptFault, NulByte, UnknownLabel, NoPreviousExpression, Location, subst₂, longest_one, fault_refuses, at_one, longest_along, HasItems, JumpsTo, AreJumpsDefined, LinksFault, IsFirstFault}
use Rattle.std.specs.Prelude.{◌+◌}
use Rattle.sedck_commands.specs.FirstFaults as first
use Rattle.sedck_commands.proofs.OneFaultCauses.{one_first_fault}
use Rattle.sedck_script.specs.FirstFault as f
use Rattle.sedck_script.proofs.SortedNames.{Contains-cons_cases, Contains-cons_more}
use Rattle.sedck_script.proofs.Nesting.{label_written}
use Rattle.sedck_script.proofs.ProgramLemmas.{no_program, resolved_patterns, previous_contained}
use Rattle.sedck_script.proofs.EmptyExpressions.{previous_left, previous_right, command_empty, command_empty_one}
use Rattle.sedck_script.proofs.OneLocation.{locations_one, command_at}

-- ---- The first byte 0

nat_one : (m n : ℕ) → (m < n → ⊥) → (n < m → ⊥) → m ≡ n
nat_one zero zero h k = refl
nat_one zero (suc n) h k = absurd (h (omega arith))
nat_one (suc m) zero h k = absurd (k (omega arith))
nat_one (suc m) (suc n) h k = ap suc (nat_one m n (λ l. h (omega (arith, l))) (λ l. k (omega (arith, l))))

zero_before : (text : List ℕ) (m n : ℕ) → StandsAt text m 0 → IsFirstZero text n → m < n → ⊥
zero_before text m n h z l =
    let far = slice_get_within text n 0 z.0 in
    let long = length-take-le n text (omega (arith, far)) in
    z.1 (m, omega (arith, l, long), get_or-take n text m 0 l ∙ get_or_from_slice_get text m 0 0 h)

zero_there : (text : List ℕ) (n : ℕ) → IsFirstZero text n → Contains text 0
zero_there text n z = (n, slice_get_within text n 0 z.0, get_or_from_slice_get text n 0 0 z.0)

-- ---- The first item

-- the first item with a property is one, with those in front of it
first_item : (P : Item → Type 0) (front other more rest : List Item) {x y : Item} → front ++ x ∷ more ≡ other ++ y ∷ rest
    → ((i : Item) → Contains front i → P i → ⊥) → ((i : Item) → Contains other i → P i → ⊥) → P x → P y → (front ≡ other) × (x ≡ y)
first_item P [] [] more rest e none neither p q = (refl, cc e)
first_item P [] (z ∷ other) more rest {x} e none neither p q = let same : x ≡ z = cc e in absurd (neither z (0, omega arith, refl) (subst P same p))
first_item P (z ∷ front) [] more rest {y = y} e none neither p q = let same : z ≡ y = cc e in absurd (none z (0, omega arith, refl) (subst P (sym same) q))
first_item P (z ∷ front) (t ∷ other) more rest e none neither p q =
    let same : z ≡ t = cc e in
    let one = first_item P front other more rest (cc e) (λ i has. none i (Contains-cons_more z front i has))
    (λ i has. neither i (Contains-cons_more t other i has)) p q in
    (λ k. same k ∷ one.0 k, one.1)

-- ---- Labels

label_offset : {size m n : ℕ} {text name : List ℕ} → LabelBeginsAt size text name m → LabelBeginsAt size text name n → m ≡ n
label_offset {name = name} x y =
    let same = longest_one (longest_along (longest_one x.1.skipped y.1.skipped).1 x.1.run) y.1.run in
    at_one (ap (λ t. name ++ t) same.1) x.2 y.2

-- an item is a jump to a label that none defines
abbrev IsLost : List Item → Item → Type 0
IsLost items item = (name : List ℕ) × JumpsTo item name × (first.Defines items name → ⊥)

none_lost : (items front : List Item) → AreJumpsDefined items front → (i : Item) → Contains front i → IsLost items i → ⊥
none_lost items front all i has lost = lost.2 (all i lost.0 has lost.1)

names_one : {item : Item} {name other : List ℕ} → JumpsTo item name → JumpsTo item other → name ≡ other
names_one {name = name} {other = other} x y = cc (x.4, y.4)

in_front : (front more : List Item) (item : Item) {items : List Item} → items ≡ front ++ item ∷ more → Contains items item
in_front front more item e = subst (λ t. Contains t item) (sym e) (Contains-append_right front (item ∷ more) item (0, omega arith, refl))

-- ---- Empty expressions

abbrev HasEmpty : Item → Type 0
HasEmpty item = has_previous (patterns_of item) ≡ true

has_empty : (items : List Item) (i : Item) → Contains items i → HasEmpty i → has_previous (item_patterns items) ≡ true
has_empty [] i has empty = absurd (omega (arith, has.1))
has_empty (x ∷ items) i has empty = elim (Contains-cons_cases x items i has) [
  | inl e ↦ previous_left (patterns_of x) (item_patterns items) (ap (λ t. has_previous (patterns_of t)) e ∙ empty)
  | inr more ↦ previous_right (patterns_of x) (item_patterns items) (has_empty items i more empty)
]

-- a command that is not behind the first items is one of them
among_before : (front more : List Item) (k : ℕ) {item : Item} → slice_get (commands_among (front ++ more)) k ≡ Some item
    → k < length (commands_among front) → Contains front item
among_before [] more k s below = absurd (omega (arith, below))
among_before (Closing ∷ front) more k {item} s below = Contains-cons_more Closing front item (among_before front more k s below)
among_before (Written a n v ∷ front) more zero s below = (0, omega arith, cc s)
among_before (Written a n v ∷ front) more (suc k) {item} s below =
    Contains-cons_more (Written a n v) front item (among_before front more k s (omega (arith, below)))

among_in : (items : List Item) (k : ℕ) {item : Item} → slice_get (commands_among items) k ≡ Some item → Contains items item
among_in items k {item} s =
    among_before items [] k (ap (λ t. slice_get (commands_among t) k) (append-nil items) ∙ s) (slice_get_within (commands_among items) k item s)

module _ {text : List ℕ} {items : List Item} where
  -- the command at this place has the empty expression
  empty_at : (x : Items text items) (k : ℕ) {location : Location} {offset : ℕ} → slice_get (locations_of (length text) x) k ≡ Some location
      → CommandEmpty (length text) (drop location.start text) offset
      → (item : Item) × (slice_get (commands_among items) k ≡ Some item) × HasEmpty item
  empty_at x k s e = let at = command_at text x k ([], refl) s in (Written at.0 at.1 at.2, at.4, command_empty e at.5)

  -- no command with an empty expression is in front of the first one
  not_before : (x : Items text items) (k : ℕ) {location : Location} {offset : ℕ} → slice_get (locations_of (length text) x) k ≡ Some location
      → CommandEmpty (length text) (drop location.start text) offset → (front more : List Item) → items ≡ front ++ more
      → has_previous (item_patterns front) ≡ false → k < length (commands_among front) → ⊥
  not_before x k s e front more cut free below =
      let at = empty_at x k s e in
      false≢true (sym free ∙ has_empty front at.0 (among_before front more k (ap (λ t. slice_get (commands_among t) k) (sym cut) ∙ at.1) below) at.2)

  links_one : {fault other : ScriptFault} (x y : Items text items) → LinksFault text items x fault → LinksFault text items y other → fault ≡ other
  links_one x y (f.label {offset = m} {name = name} {location = location} front more item cut to lost all s l)
      (f.label {name = other} {location = location'} front' more' item' cut' to' lost' all' s' l') =
      let one = first_item (IsLost items) front front' more more' (sym cut ∙ cut') (none_lost items front all) (none_lost items front' all')
      (name, to, lost) (other, to', lost') in
      let names : name ≡ other = names_one (subst (λ i. JumpsTo i name) one.1 to) to' in
      let here : Some location ≡ Some location' =
      sym s ∙ ap₂ (λ t i. slice_get t (length (commands_among i))) (locations_one (length text) refl x y) one.0 ∙ s' in
      let same : location ≡ location' = cc here in
      ap UnknownLabel (label_offset (subst₂ (λ t n. LabelBeginsAt (length text) (drop (t.verb + 1) text) n m) same names l) l')
  links_one x y (f.label front more item cut to lost all s l) (f.expression front' more' empty' all' none' cut' free' s' e') =
      absurd (lost (all' item _ (in_front front more item cut) to))
  links_one x y (f.expression front more empty all none cut free s e) (f.label front' more' item' cut' to' lost' all' s' l') =
      absurd (lost' (all item' _ (in_front front' more' item' cut') to'))
  links_one x y (f.expression {offset = m} {location = location} front more empty all none cut free s e)
      (f.expression {location = location'} front' more' empty' all' none' cut' free' s' e') =
      let k = length (commands_among front) in
      let l = length (commands_among front') in
      let places : k ≡ l = nat_one k l (not_before x k s e front' (empty' ∷ more') cut' free') (not_before y l s' e' front (empty ∷ more) cut free) in
      let here : Some location ≡ Some location' = sym s ∙ ap₂ slice_get (locations_one (length text) refl x y) places ∙ s' in
      let same : location ≡ location' = cc here in
      ap NoPreviousExpression (command_empty_one (subst (λ t. CommandEmpty (length text) (drop t.start text) m) same e) e')

-- the same of two lists of items that are one
links_over : {text : List ℕ} {items others : List Item} {fault other : ScriptFault} → items ≡ others → (x : Items text items) (y : Items text others)
    → LinksFault text items x fault → LinksFault text others y other → fault ≡ other
links_over {text} {items} {others} {fault} {other} e x y g h =
    subst (λ t. (z : Items text t) → LinksFault text t z other → fault ≡ other) e (λ z k. links_one x z g k) y h

-- ---- All of them

no_items : {text : List ℕ} {items : List Item} {fault : ScriptFault} {B : Type 0} → first.ItemsFault (length text) [] [] text fault → HasItems text items → B
no_items {items = items} x has = absurd (fault_refuses x items has.spelled has.few has.once has.nests)

pub first_fault_one : (text : List ℕ) (fault other : ScriptFault) → IsFirstFault text fault → IsFirstFault text other → fault ≡ other
first_fault_one text _ _ (f.too_long long) (f.too_long long') = refl
first_fault_one text _ _ (f.too_long long) (f.zero fits z) = absurd (omega (arith, long, fits))
first_fault_one text _ _ (f.too_long long) (f.items is x) = absurd (omega (arith, long, is.fits))
first_fault_one text _ _ (f.too_long long) (f.links is has x) = absurd (omega (arith, long, is.fits))
first_fault_one text _ _ (f.zero fits z) (f.too_long long) = absurd (omega (arith, long, fits))
first_fault_one text _ _ (f.zero {offset = m} fits z) (f.zero {offset = n} fits' z') =
    ap NulByte (nat_one m n (zero_before text m n z.0 z') (zero_before text n m z'.0 z))
first_fault_one text _ _ (f.zero fits z) (f.items is x) = absurd (is.no_zero (zero_there text _ z))
first_fault_one text _ _ (f.zero fits z) (f.links is has x) = absurd (is.no_zero (zero_there text _ z))
first_fault_one text _ _ (f.items is x) (f.too_long long) = absurd (omega (arith, long, is.fits))
first_fault_one text _ _ (f.items is x) (f.zero fits z) = absurd (is.no_zero (zero_there text _ z))
first_fault_one text _ _ (f.items is x) (f.items is' y) = one_first_fault x y
first_fault_one text _ _ (f.items is x) (f.links is' has y) = no_items x has
first_fault_one text _ _ (f.links is has x) (f.too_long long) = absurd (omega (arith, long, is.fits))
first_fault_one text _ _ (f.links is has x) (f.zero fits z) = absurd (is.no_zero (zero_there text _ z))
first_fault_one text _ _ (f.links is has x) (f.items is' y) = no_items y has
first_fault_one text _ other (f.links {items = items} is has x) (f.links {items = items'} is' has' y) =
    links_over (items_one has.spelled has'.spelled) has.spelled has'.spelled x y

-- ---- No script

-- in a script each branch and test to a label leads to a command that defines it
jump_leads : {all cs : List Command} {blocks : List ℕ} {place : ℕ} {items : List Item} → Resolves all blocks place items cs → (item : Item) {name : List ℕ}
    → Contains items item → JumpsTo item name → (at : ℕ) × Defines all name at
jump_leads done item has to = absurd (omega (arith, has.1))
jump_leads (known r) item has to = elim (Contains-cons_cases _ _ item has) [ inl e ↦ absurd (cc (e, to.4)) | inr more ↦ jump_leads r item more to ]
jump_leads {all} (jump {label = label} target may leads r) item {name} has to = elim (Contains-cons_cases _ _ item has) [
  | inl e ↦ let same : label ≡ Some name = cc (e, to.4) in (target, subst (λ l. LeadsTo all l target) same leads)
  | inr more ↦ jump_leads r item more to
]
jump_leads (opening h r) item has to = elim (Contains-cons_cases _ _ item has) [ inl e ↦ absurd (cc (e, to.4)) | inr more ↦ jump_leads r item more to ]
jump_leads (closing h r) item has to = elim (Contains-cons_cases _ _ item has) [ inl e ↦ absurd (cc (e, to.4)) | inr more ↦ jump_leads r item more to ]

links_refuse : {text : List ℕ} {items : List Item} {fault : ScriptFault} (x : Items text items) → LinksFault text items x fault → (p : Program)
    → Spells text p → ⊥
links_refuse {items = items} x (f.label {name = name} front more item cut to lost all s l) p spells =
    let r : Resolves p.commands [] 0 items p.commands = rw (items_one spells.spelled x) at spells.commands.resolved in
    let at = jump_leads r item (in_front front more item cut) to in
    lost (at.0, label_written r name at.0 at.1)
links_refuse {items = items} x (f.expression front more empty all none cut free s e) p spells =
    let r : Resolves p.commands [] 0 items p.commands = rw (items_one spells.spelled x) at spells.commands.resolved in
    let k = length (commands_among front) in
    let at = empty_at x k s e in
    let some = has_empty items at.0 (among_in items k at.1) at.2 in
    let same : patterns p.commands ≡ item_patterns items = resolved_patterns r in
    spells.commands.allowed.expression (previous_contained (patterns p.commands) (ap has_previous same ∙ some))
    (ap (flat_map pattern_expressions) same ∙ none)

pub first_fault_refuses : (text : List ℕ) (fault : ScriptFault) → IsFirstFault text fault → (p : Program) → Spells text p → ⊥
first_fault_refuses text _ (f.too_long long) p spells = omega (arith, long, spells.allowed.fits)
first_fault_refuses text _ (f.zero fits z) p spells = spells.allowed.no_zero (zero_there text _ z)
first_fault_refuses text _ (f.items is x) p spells = no_program x p spells
first_fault_refuses text _ (f.links is has x) p spells = links_refuse has.spelled x p spells
