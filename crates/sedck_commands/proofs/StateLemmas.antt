-- What is known of the items read so far, when one more is read.
use Rattle.sedck_commands.proofs.Common.{◌≡◌, ℕ, suc, ◌<◌, Bool, List, [], ◌∷◌, ◌++◌, length, drop, map, option_or, append_assoc, item_of, Option, Some, None, refl, ap, ◌∙◌, subst, append-nil, length-append, arith, Address, WrittenVerb, Known, JumpTo, Opening, Takes, Item, Written, Closing, Turn, Opens, Closes, Stays, Jumps, verb_turn, commands_among, HasLabels, label_place, locations_in, written_verb, patterns_of, item_patterns, NotesLabel, Bor, HashMap, is_braced, Label, Pattern, IsFreshIn, MayBeBraced, IsFirstEmpty, CommandEmpty, EmptyOf, NotesBlock, WrittenCode}
use Rattle.sedck_commands.proofs.AddressLemmas.{none_of_both}
use Rattle.std.proofs.lemmas.List.Concat.{flat_map-append}
use Rattle.sedck_commands.specs.declared.items.WrittenCommand.{WrittenCommand}
use Rattle.sedck_commands.specs.declared.items.WrittenItem.{WrittenItem}
use Rattle.sedck_commands.specs.declared.items.WrittenItem.TheVariants as item
use Rattle.sedck_commands.specs.declared.items.Written.TheVariants as code
use Rattle.sedck_commands.proofs.LabelPlaces.{labels_label, labels_other}

pub among_append : (xs ys : List Item) → commands_among (xs ++ ys) ≡ commands_among xs ++ commands_among ys
among_append [] ys = refl
among_append (Written a n v ∷ xs) ys = ap (λ t. Written a n v ∷ t) (among_append xs ys)
among_append (Closing ∷ xs) ys = among_append xs ys

pub among_closing : (xs : List Item) → commands_among (xs ++ Closing ∷ []) ≡ commands_among xs
among_closing xs = among_append xs (Closing ∷ []) ∙ append-nil (commands_among xs)

pub patterns_push : (xs : List Item) (x : Item) → item_patterns (xs ++ x ∷ []) ≡ item_patterns xs ++ patterns_of x
patterns_push xs x = flat_map-append patterns_of xs (x ∷ []) ∙ ap (λ t. item_patterns xs ++ t) (append-nil (patterns_of x))

pub patterns_closing : (xs : List Item) → item_patterns (xs ++ Closing ∷ []) ≡ item_patterns xs
patterns_closing xs = patterns_push xs Closing ∙ append-nil (item_patterns xs)

-- ---- Empty expressions

pub emptied_more : (text : List ℕ) (ps : List Pattern) (items added : List WrittenItem) (o : Option ℕ) → IsFirstEmpty ps (EmptyOf text items) o
    → IsFirstEmpty ps (EmptyOf text (items ++ added)) o
emptied_more text ps items added None h = h
emptied_more text ps items added (Some place) h =
    (h.0, h.1 ++ added, h.2, ap (λ t. t ++ added) h.3 ∙ append_assoc h.0 (item.Command h.2 ∷ h.1) added, h.4, h.5)

-- the first empty expression after one more command
pub emptied_push : (text : List ℕ) (items : List WrittenItem) (c : WrittenCommand) (ps : List Pattern) (old new : Option ℕ)
    → IsFirstEmpty (item_patterns (map item_of items)) (EmptyOf text items) old
    → IsFirstEmpty ps (CommandEmpty (length text) (drop c.location.start text)) new
    → IsFirstEmpty (item_patterns (map item_of items) ++ ps) (EmptyOf text (items ++ item.Command c ∷ [])) (option_or old new)
emptied_push text items c ps (Some place) new h k = emptied_more text ps items (item.Command c ∷ []) (Some place) h
emptied_push text items c ps None None h k = none_of_both (item_patterns (map item_of items)) ps h k
emptied_push text items c ps None (Some place) h k = (items, [], c, refl, h, k)

-- ---- Locations

pub locations_push : (xs : List WrittenItem) (c : WrittenCommand) → locations_in (xs ++ item.Command c ∷ []) ≡ locations_in xs ++ c.location ∷ []
locations_push [] c = refl
locations_push (item.Command x ∷ xs) c = ap (λ t. x.location ∷ t) (locations_push xs c)
locations_push (item.Closing ∷ xs) c = locations_push xs c

pub locations_closing : (xs : List WrittenItem) → locations_in (xs ++ item.Closing ∷ []) ≡ locations_in xs
locations_closing [] = refl
locations_closing (item.Command x ∷ xs) = ap (λ t. x.location ∷ t) (locations_closing xs)
locations_closing (item.Closing ∷ xs) = locations_closing xs

-- ---- Labels

-- the labels after one more command
pub labels_noted : {S : Type 0} (old new : HashMap (Bor (List ℕ)) ℕ S) (xs : List Item) (a : Address) (n : Bool) (v : WrittenCode)
    → HasLabels old xs → IsFreshIn old v → Takes (written_verb v) a n → NotesLabel old new (length xs) v
    → HasLabels new (xs ++ Written a n (written_verb v) ∷ [])
labels_noted old new xs a n (code.Known v) h f t k = labels_other old new xs h _ (λ q e. f q (cc e)) k
labels_noted old new xs a n (code.Label name) h f t k = rw (t.0, t.1) (labels_label old new xs h name.now f k)
labels_noted old new xs a n _ h f t k = labels_other old new xs h _ (λ q e. absurd (cc e)) k

-- a label that the verb defines isn't among those
pub fresh_name : {S : Type 0} (old : HashMap (Bor (List ℕ)) ℕ S) (v : WrittenCode) → IsFreshIn old v → (name : List ℕ) → written_verb v ≡ Known (Label name)
    → label_place old name ≡ None
fresh_name old (code.Known v) f name e = absurd (f name (cc e))
fresh_name old (code.Label found) f name e = subst (λ n. label_place old n ≡ None) (cc e) f
fresh_name old _ f name e = absurd (cc e)

pub none_some : {o : Option ℕ} {k : ℕ} → o ≡ None → o ≡ Some k → ⊥
none_some h k = absurd (cc (h, k))

-- ---- Blocks

-- this many blocks are open after a turn
abbrev pub Deeper : Turn → ℕ → ℕ → Type 0
Deeper Opens depth deep = (deep ≡ suc depth) × (depth < 64)
Deeper Closes depth deep = ⊥
Deeper Stays depth deep = deep ≡ depth
Deeper (Jumps braced) depth deep = (deep ≡ depth) × MayBeBraced braced depth

pub blocks_noted : (v : WrittenVerb) (old new : List ℕ) (place : ℕ) → NotesBlock (verb_turn v) old new place → (v ≡ Opening → length old < 64)
    → MayBeBraced (is_braced v) (length old) → Deeper (verb_turn v) (length old) (length new)
blocks_noted (Known v) old new place k few may = ap length k
blocks_noted (JumpTo tests l braced) old new place k few may = (ap length k, may)
blocks_noted Opening old new place k few may = (omega (arith, ap length k, length-append old (place ∷ [])), few refl)
