-- Which programs a text spells, by its items.
use Rattle.sedck_script.proofs.Common.{◌≡◌, ℕ, zero, suc, ◌<◌, ◌≤◌, true, false, List, [], ◌∷◌, ◌++◌, length, map, get_or, Option, Some, None, Contains, refl, ap, sym, ◌∙◌, subst, inl, inr, arith, false≢true, Bor, HashMap, Tree, Pattern, Previous, Expression, NoAddress, Label, Command, Program, address_patterns, verb_patterns, patterns, expressions, Known, Item, Written, Closing, Items, AreLabelsDistinct, Resolves, done, known, jump, opening, closing, Spells, AreCommands, HasLabels, commands_among, item_of, item_label, has_previous, item_patterns, has_some, WrittenItem, All, flat_map, take, ◌≢◌, drop, slice_get, slice_get-map, slice_get-get_or, slice_get_within, get_or_from_slice_get, split_at, get_or-take, length-take-le, map-append, option_map, pattern_expressions, IsItemAt, EmptyOf, JumpTo, Opening, JumpsTo, AreJumpsDefined, LinksFault, IsFirstLost, IsKnownLabel, ScriptFault, NoPreviousExpression, AreLabelsOnce, ItemsFault, locations_in, fault_refuses, locations_of}
use Rattle.sedck_script.proofs.Nesting.{resolves_nests, resolves_length, label_written, labels_once}
use Rattle.sedck_script.proofs.SortedNames.{Contains-cons_cases, Contains-cons_more}
use Rattle.sedck_commands.specs.FirstFaults as first
use Rattle.sedck_commands.specs.declared.items.WrittenCommand.{WrittenCommand}
use Rattle.sedck_commands.specs.declared.items.WrittenItem.TheVariants as item

-- a text whose items have a fault spells no program
pub no_program : {size : ℕ} {text : List ℕ} {f : ScriptFault} → ItemsFault size [] [] text f → (other : Program) → Spells text other → ⊥
no_program x other s =
    fault_refuses x s.items s.spelled (omega (arith, resolves_length s.commands.resolved, s.commands.allowed.count)) (labels_once s.commands.resolved s.commands.labels)
    (resolves_nests s.commands.resolved)

-- ---- Labels

pub among_has : (items : List Item) (name : List ℕ) → Contains items (Written NoAddress false (Known (Label name)))
    → (i : ℕ) × (slice_get (commands_among items) i ≡ Some (Written NoAddress false (Known (Label name))))
among_has [] name h = absurd (omega (arith, h.1))
among_has (Written a n v ∷ items) name h = elim (Contains-cons_cases (Written a n v) items _ h) [
  | inl e ↦ (zero, ap Some e)
  | inr more ↦ let later = among_has items name more in (suc later.0, later.1)
]
among_has (Closing ∷ items) name h = elim (Contains-cons_cases Closing items _ h) [
  | inl e ↦ absurd (cc e)
  | inr more ↦ among_has items name more
]

distinct : {S : Type 0} (labels : HashMap (Bor (List ℕ)) ℕ S) {items : List Item} {cs : List Command} → HasLabels labels (commands_among items)
    → Resolves cs [] 0 items cs → AreLabelsDistinct cs
distinct labels h r name i j d e =
    let same : Some i ≡ Some j = sym (h.found name i (label_written r name i d)) ∙ h.found name j (label_written r name j e) in cc same

-- ---- Expressions

pub resolved_patterns : {all cs : List Command} {blocks : List ℕ} {place : ℕ} {items : List Item} → Resolves all blocks place items cs
    → patterns cs ≡ item_patterns items
resolved_patterns done = refl
resolved_patterns (known {address = a} {verb = v} r) = ap (λ t. (address_patterns a ++ verb_patterns v) ++ t) (resolved_patterns r)
resolved_patterns (jump {address = a} {tests = true} t may h r) = ap (λ t. (address_patterns a ++ []) ++ t) (resolved_patterns r)
resolved_patterns (jump {address = a} {tests = false} t may h r) = ap (λ t. (address_patterns a ++ []) ++ t) (resolved_patterns r)
resolved_patterns (opening {address = a} h r) = ap (λ t. (address_patterns a ++ []) ++ t) (resolved_patterns r)
resolved_patterns (closing h r) = resolved_patterns r

contains_previous : (ps : List Pattern) → Contains ps Previous → has_previous ps ≡ true
contains_previous [] h = absurd (omega (arith, h.1))
contains_previous (Previous ∷ ps) h = refl
contains_previous (Expression t ∷ ps) h =
    elim (Contains-cons_cases (Expression t) ps Previous h) [ inl e ↦ absurd (cc e) | inr more ↦ contains_previous ps more ]

pub previous_contained : (ps : List Pattern) → has_previous ps ≡ true → Contains ps Previous
previous_contained [] h = absurd (false≢true h)
previous_contained (Previous ∷ ps) h = (0, omega arith, refl)
previous_contained (Expression t ∷ ps) h = Contains-cons_more (Expression t) ps Previous (previous_contained ps h)

some_not_empty : (ts : List Tree) → has_some ts ≡ true → ts ≢ []
some_not_empty [] h e = false≢true h
some_not_empty (t ∷ ts) h e = absurd (cc e)

none_empty : (ts : List Tree) → has_some ts ≡ false → ts ≡ []
none_empty [] h = refl
none_empty (t ∷ ts) h = absurd (false≢true (sym h))

-- the items are these commands, where each empty expression has another one
pub are_commands : {S : Type 0} (labels : HashMap (Bor (List ℕ)) ℕ S) {items : List Item} {cs : List Command}
    → HasLabels labels (commands_among items) → Resolves cs [] 0 items cs → length (commands_among items) ≤ 4095
    → (has_previous (item_patterns items) ≡ true → has_some (expressions cs) ≡ true) → AreCommands items cs
are_commands labels {cs = cs} h r few other = record {
  resolved = r;
  labels = distinct labels h r;
  allowed = record {
    expression = λ k. some_not_empty (expressions cs) (other (sym (ap has_previous (resolved_patterns r)) ∙ contains_previous (patterns cs) k));
    count = omega (arith, resolves_length r, few);
  };
}

-- ---- First faults

pub once_among : {S : Type 0} (labels : HashMap (Bor (List ℕ)) ℕ S) {items : List Item} → HasLabels labels items → AreLabelsOnce items
once_among labels h name i j here there = let same : Some i ≡ Some j = sym (h.found name i here) ∙ h.found name j there in cc same

-- what has a label to lead to is a branch or a test
jump_of : (item : Item) {name : List ℕ} → item_label item ≡ Some name → JumpsTo item name
jump_of (Written a n (JumpTo tests label braced)) e = (a, n, tests, braced, ap (λ l. Written a n (JumpTo tests l braced)) e)
jump_of (Written a n (Known v)) e = absurd (cc e)
jump_of (Written a n Opening) e = absurd (cc e)
jump_of Closing e = absurd (cc e)

mapped : (o : Option WrittenItem) {item : Item} → option_map item_of o ≡ Some item → (x : WrittenItem) × (o ≡ Some x) × (item_of x ≡ item)
mapped None e = absurd (cc e)
mapped (Some x) e = (x, refl, cc e)

-- the item that was read, where there is this one
read_at : (items : List WrittenItem) {item : Item} → Contains (map item_of items) item
    → (place : ℕ) × (d : WrittenItem) × (place < length items) × (item_of (get_or items place d) ≡ item)
read_at items {item} has =
    let x = mapped (slice_get items has.0)
    (sym (slice_get-map item_of items has.0) ∙ slice_get-get_or (map item_of items) has.0 item has.1 ∙ ap Some has.2) in
    (has.0, x.0, slice_get_within items has.0 x.0 x.1, ap item_of (get_or_from_slice_get items has.0 x.0 x.0 x.1) ∙ x.2)

-- the location of a command is that after as many as there are in front
located_in : (front : List WrittenItem) (c : WrittenCommand) (more : List WrittenItem)
    → slice_get (locations_in (front ++ item.Command c ∷ more)) (length (commands_among (map item_of front))) ≡ Some c.location
located_in [] c more = refl
located_in (item.Command x ∷ front) c more = located_in front c more
located_in (item.Closing ∷ front) c more = located_in front c more

module _ {S : Type 0} (labels : HashMap (Bor (List ℕ)) ℕ S) (items : List WrittenItem) (h : HasLabels labels (commands_among (map item_of items))) where
  known_by : {label : Option (List ℕ)} {name : List ℕ} → label ≡ Some name → IsKnownLabel labels label → first.Defines (map item_of items) name
  known_by {label} {name} e k = let at = subst (IsKnownLabel labels) e k in (at.0, h.at name at.0 at.1)

  pub all_known : (some : List WrittenItem) → All (λ x. IsKnownLabel labels (item_label (item_of x))) some → AreJumpsDefined (map item_of items) (map item_of some)
  all_known some all leads name has to =
      let at = read_at some has in known_by (ap item_label (at.3 ∙ to.4)) (all at.0 at.1 at.2)

  pub first_lost : {text : List ℕ} {fault : ScriptFault} → IsFirstLost labels items fault → All (IsItemAt text) items
      → (spelled : Items text (map item_of items)) → locations_in items ≡ locations_of (length text) spelled
      → LinksFault text (map item_of items) spelled fault
  first_lost {text} {fault} x all spelled located =
      let at = x.at text all in
      let front = take x.place items in
      let more = drop (suc x.place) items in
      let within = slice_get_within items x.place (item.Command x.command) x.here in
      let cut : items ≡ front ++ item.Command x.command ∷ more =
      split_at items x.place (item.Command x.command) within
      ∙ ap (λ i. front ++ i ∷ more) (get_or_from_slice_get items x.place (item.Command x.command) (item.Command x.command) x.here) in
      subst (LinksFault text (map item_of items) spelled) (sym at.1) (LinksFault.label (map item_of front) (map item_of more)
      (item_of (item.Command x.command)) (ap (map item_of) cut ∙ map-append item_of front (item.Command x.command ∷ more))
      (jump_of (item_of (item.Command x.command)) x.label)
      (λ d. absurd (cc (x.lost, h.found x.name d.0 d.1)))
      (all_known front (λ k d below. let short : k < x.place = omega (arith, below, length-take-le x.place items (omega (arith, within))) in
      subst (λ i. IsKnownLabel labels (item_label (item_of i))) (sym (get_or-take x.place items k d short)) (x.before k d short)))
      (ap (λ l. slice_get l (length (commands_among (map item_of front)))) (sym located ∙ ap locations_in cut) ∙ located_in front x.command more)
      at.2)

pub first_empty : {text : List ℕ} {place : ℕ} (items : List WrittenItem) → EmptyOf text items place → (spelled : Items text (map item_of items))
    → locations_in items ≡ locations_of (length text) spelled → AreJumpsDefined (map item_of items) (map item_of items)
    → flat_map pattern_expressions (item_patterns (map item_of items)) ≡ [] → LinksFault text (map item_of items) spelled (NoPreviousExpression place)
first_empty {text} {place} items x spelled located jumps_known none =
    LinksFault.expression (map item_of x.0) (map item_of x.1) (item_of (item.Command x.2)) jumps_known none
    (ap (map item_of) x.3 ∙ map-append item_of x.0 (item.Command x.2 ∷ x.1)) x.4
    (ap (λ l. slice_get l (length (commands_among (map item_of x.0)))) (sym located ∙ ap locations_in x.3) ∙ located_in x.0 x.2 x.1) x.5

-- where all expressions are empty
pub no_patterns : {items : List Item} {cs : List Command} → Resolves cs [] 0 items cs → has_some (expressions cs) ≡ false
    → flat_map pattern_expressions (item_patterns items) ≡ []
no_patterns {cs = cs} r none = ap (flat_map pattern_expressions) (sym (resolved_patterns r)) ∙ none_empty (expressions cs) none

pub lost_among : {S : Type 0} {labels : HashMap (Bor (List ℕ)) ℕ S} {items others : List WrittenItem} {fault : ScriptFault} → items ≡ others
    → IsFirstLost labels items fault → IsFirstLost labels others fault
lost_among {labels = labels} {fault = fault} e x = subst (λ items. IsFirstLost labels items fault) e x
