-- How far the items have been resolved, from the back.
use Rattle.sedck_script.proofs.Common.{◌≡◌, ℕ, suc, ◌+◌, ◌<◌, List, [], ◌∷◌, ◌++◌, length, map, reverse, Bool, Option, Some, None, refl, ap, sym, ◌∙◌, subst, append-nil, length-append, arith, map_push, length-map, All, Bor, HashMap, Address, Command, WrittenVerb, Known, Item, Written, Closing, Defines, LeadsTo, Resolves, done, known, jump, opening, closing, label_place, HasLabels, commands_among, Turned, Nests, IsKnownLabel, item_label, item_of, WrittenItem, append_assoc, length-reverse, reverse-append, nil_from_length, get_or-append_seam, JumpTo, Opening, MayBeBraced, verb_turn, label_of, target_of, resolved_verb, TakesTarget}
use Rattle.std.proofs.Math.ListN.{get_or-append}
use Rattle.sedck_commands.proofs.StateLemmas.{among_append, among_closing}
use Rattle.sedck_script.proofs.Nesting.{resolves_nests, resolves_length, nests_one, nests_behind, label_defined, plain_commands, plain_length, plain_label}

-- what is known of the commands of the whole script
pub record Knows {S : Type 0} (labels : HashMap (Bor (List ℕ)) ℕ S) (end : ℕ) (all : List Command) : Type 0 where
  pub len : end ≡ length all
  pub at : (name : List ℕ) (i : ℕ) → label_place labels name ≡ Some i → Defines all name i

-- These items are left, and those after them have become the commands.
pub record IsBack {S : Type 0} (labels : HashMap (Bor (List ℕ)) ℕ S) (end : ℕ) (whole left : List Item) (made : List Command) (blocks : List ℕ) : Type 0 where
  pub suffix : List Item
  pub split : whole ≡ left ++ suffix
  pub count : end ≡ length (commands_among left) + length made
  pub resolves : (all : List Command) → Knows labels end all → Resolves all blocks (length (commands_among left)) suffix made

pub back_start : {S : Type 0} (labels : HashMap (Bor (List ℕ)) ℕ S) (end : ℕ) (whole : List Item) → end ≡ length (commands_among whole)
    → IsBack labels end whole whole [] []
back_start labels end whole e = record { suffix = []; split = rw append-nil refl; count = omega (arith, e); resolves = λ all k. done }

leads : {S : Type 0} (labels : HashMap (Bor (List ℕ)) ℕ S) (end : ℕ) (all : List Command) (label : Option (List ℕ)) → Knows labels end all
    → IsKnownLabel labels label → LeadsTo all label (target_of labels end label)
leads labels end all None k h = k.len
leads labels end all (Some name) k h = rw h.1 (k.at name h.0 h.1)

-- ---- Blocks

pub reverse_push : {X : Type 0} (xs : List X) (x : X) → reverse (xs ++ x ∷ []) ≡ x ∷ reverse xs
reverse_push xs x = reverse-append xs (x ∷ [])

not_empty : {X : Type 0} (xs : List X) → 0 < length (reverse xs) → xs ≡ [] → ⊥
not_empty xs h e = omega (arith, h, length-reverse xs, ap length e)

-- the command of an item, with its verb's target
abbrev pub made_of : {S : Type 0} → HashMap (Bor (List ℕ)) ℕ S → ℕ → ℕ → Address → Bool → WrittenVerb → Command
made_of labels end target a n v = record { address = a; negated = n; verb = resolved_verb labels end target v }

-- where nothing is taken, as many blocks are open as nest
as_deep : {all made : List Command} {place : ℕ} (braced : Bool) (old new : List ℕ) (suffix : List Item) (depth : ℕ) → new ≡ old
    → MayBeBraced braced depth × Nests suffix depth → Resolves all (reverse old) place suffix made → MayBeBraced braced (length (reverse new))
as_deep braced old new suffix depth e d r h = omega (arith, d.0 h, nests_one suffix (length (reverse old)) depth (resolves_nests r) d.1, ap (λ b. length (reverse b)) e)

step : {S : Type 0} (labels : HashMap (Bor (List ℕ)) ℕ S) (end place target depth : ℕ) (all made : List Command) (old new : List ℕ)
    (suffix : List Item) (a : Address) (n : Bool) (v : WrittenVerb)
    → Knows labels end all → IsKnownLabel labels (label_of v) → TakesTarget (verb_turn v) old new target → Turned (verb_turn v) (Nests suffix) depth
    → Resolves all (reverse old) (suc place) suffix made → Resolves all (reverse new) place (Written a n v ∷ suffix) (made_of labels end target a n v ∷ made)
step labels end place target depth all made old new suffix a n (Known v) k l t d r = known (rw (← t) at r)
step labels end place target depth all made old new suffix a n (JumpTo tests label braced) k l t d r =
    jump _ (as_deep braced old new suffix depth t d r) (leads labels end all label k l) (rw (← t) at r)
step labels end place target depth all made old new suffix a n Opening k l t d r =
    let deep : length (reverse old) ≡ suc depth = nests_one suffix (length (reverse old)) (suc depth) (resolves_nests r) d.1 in
    let cut : old ≡ new ++ target ∷ [] = t (not_empty old (omega (arith, deep))) in
    let front : reverse old ≡ target ∷ reverse new = ap reverse cut ∙ reverse_push new target in
    opening (omega (arith, ap length front, deep, d.0)) (rw front at r)

among_push : (left : List Item) (a : Address) (n : Bool) (v : WrittenVerb)
    → length (commands_among (left ++ Written a n v ∷ [])) ≡ suc (length (commands_among left))
among_push left a n v =
    let all = ap length (among_append left (Written a n v ∷ [])) in
    omega (arith, all, length-append (commands_among left) (Written a n v ∷ []))

-- one more command
pub back_command : {S : Type 0} {labels : HashMap (Bor (List ℕ)) ℕ S} {end : ℕ} {whole : List Item} {made : List Command} (old : List ℕ)
    (left : List Item) (a : Address) (n : Bool) (v : WrittenVerb) (target : ℕ) (new : List ℕ)
    → Nests whole 0 → IsKnownLabel labels (label_of v) → TakesTarget (verb_turn v) old new target
    → IsBack labels end whole (left ++ Written a n v ∷ []) made (reverse old)
    → IsBack labels end whole left (made_of labels end target a n v ∷ made) (reverse new)
back_command {labels = labels} {end = end} {whole = whole} {made = made} old left a n v target new nests l t b =
    let split : whole ≡ left ++ Written a n v ∷ b.suffix = b.split ∙ append_assoc left (Written a n v ∷ []) b.suffix in
    let deep = nests_behind left (Written a n v ∷ b.suffix) 0 (subst (λ w. Nests w 0) split nests) in
    record {
      suffix = Written a n v ∷ b.suffix;
      split = split;
      count = omega (arith, b.count, among_push left a n v);
      resolves = λ all k. step labels end (length (commands_among left)) target deep.0 all made old new b.suffix a n v k l t deep.1
          (subst (λ p. Resolves all (reverse old) p b.suffix made) (among_push left a n v) (b.resolves all k));
    }

-- one more closing
pub back_closing : {S : Type 0} {labels : HashMap (Bor (List ℕ)) ℕ S} {end : ℕ} {whole : List Item} {made : List Command} {blocks : List ℕ}
    (left : List Item) (target : ℕ)
    → target + length made ≡ end → IsBack labels end whole (left ++ Closing ∷ []) made blocks → IsBack labels end whole left made (target ∷ blocks)
back_closing {whole = whole} {made = made} {blocks = blocks} left target e b =
    record {
      suffix = Closing ∷ b.suffix;
      split = b.split ∙ append_assoc left (Closing ∷ []) b.suffix;
      count = omega (arith, b.count, ap length (among_closing left));
      resolves = λ all k. closing (omega (arith, e, b.count, ap length (among_closing left))) (rw (ap length (among_closing left)) at (b.resolves all k));
    }

knows_plain : {S : Type 0} {labels : HashMap (Bor (List ℕ)) ℕ S} {end : ℕ} (whole : List Item) → HasLabels labels (commands_among whole)
    → end ≡ length (commands_among whole) → Knows labels end (plain_commands (commands_among whole))
knows_plain whole h e = record {
  len = e ∙ sym (plain_length (commands_among whole));
  at = λ name i k. plain_label (commands_among whole) name i (h.at name i k);
}

-- where nothing is left, the items are these commands
pub back_done : {S : Type 0} {labels : HashMap (Bor (List ℕ)) ℕ S} {end : ℕ} {whole : List Item} {made : List Command} {blocks : List ℕ}
    → HasLabels labels (commands_among whole) → Nests whole 0 → end ≡ length (commands_among whole) → IsBack labels end whole [] made blocks
    → Resolves made [] 0 whole made
back_done {labels = labels} {end = end} {whole = whole} {made = made} {blocks = blocks} h nests e b =
    let at_whole : (all : List Command) → Knows labels end all → Resolves all blocks 0 whole made = λ all k. rw b.split (b.resolves all k) in
    let first = at_whole (plain_commands (commands_among whole)) (knows_plain whole h e) in
    let none : blocks ≡ [] = nil_from_length blocks (nests_one whole (length blocks) 0 (resolves_nests first) nests) in
    let knows : Knows labels end made = record { len = e ∙ sym (resolves_length first); at = λ name i k. label_defined first name i (h.at name i k) } in
    subst (λ bs. Resolves made bs 0 whole made) none (at_whole made knows)

-- ---- Pushes and pops

pub reverse_map_push : {X Y : Type 0} (f : X → Y) (xs : List X) (x : X) → reverse (map f (xs ++ x ∷ [])) ≡ f x ∷ reverse (map f xs)
reverse_map_push f xs x = ap reverse (map_push f xs x) ∙ reverse_push (map f xs) (f x)

pub made_length : {X Y : Type 0} (f : X → Y) (xs : List X) → length (reverse (map f xs)) ≡ length xs
made_length f xs = length-reverse (map f xs) ∙ simp length-map

abbrev pub AreKnown : {S : Type 0} → HashMap (Bor (List ℕ)) ℕ S → List WrittenItem → Type 0
AreKnown labels items = All (λ item. IsKnownLabel labels (item_label (item_of item))) items

pub known_front : {S : Type 0} (labels : HashMap (Bor (List ℕ)) ℕ S) (xs ys : List WrittenItem) → AreKnown labels (xs ++ ys) → AreKnown labels xs
known_front labels xs ys h = λ k d lt. rw (get_or-append xs ys d k lt) at (h k d (omega (arith, length-append xs ys)))

pub known_last : {S : Type 0} (labels : HashMap (Bor (List ℕ)) ℕ S) (xs : List WrittenItem) (x : WrittenItem) → AreKnown labels (xs ++ x ∷ [])
    → IsKnownLabel labels (item_label (item_of x))
known_last labels xs x h = rw (get_or-append_seam xs x [] x) at (h (length xs) x (omega (arith, length-append xs (x ∷ []))))

pub none_left : {X Y : Type 0} (f : X → Y) (xs : List X) → length xs ≡ 0 → map f xs ≡ []
none_left f xs e = ap (map f) (nil_from_length xs e)
