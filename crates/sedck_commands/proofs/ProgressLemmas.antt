-- How the items of a script go on.
use Rattle.sedck_commands.proofs.Common.{◌≡◌, ℕ, suc, ◌<◌, Bool, false, List, [], ◌∷◌, ◌++◌, length, map, refl, ap, sym, ◌∙◌, subst, append_assoc, append-nil, arith, is_separator, Longest, slice_get_within, nil_from_length, Address, NoAddress, Label, Ends, WrittenVerb, Known, Takes, CommandText, Item, Written, Closing, Items, item_of, locations_in, Turn, Opens, Closes, Stays, Jumps, verb_turn, location_of, locations_of, Location, IsProgress, BeginsCommand, longest_one, unread, Cursor, unread_length, IsLabelOf, AreLabelsOnce, Turned, Nests, IsFront, ItemsFault, ScriptFault}
use Rattle.sedck_commands.specs.Items as w
use Rattle.sedck_commands.specs.Private.CommentReading.{CommentText}
use Rattle.sedck_commands.specs.declared.items.Progress.{Progress}
use Rattle.sedck_commands.proofs.OffsetLemmas.{tail_cut, tail_length, verb_text_shorter}
use Rattle.sedck_commands.proofs.LabelPlaces.{get_front, get_seam}
use Rattle.sedck_commands.proofs.CommandLemmas.{address_tail}
use Rattle.sedck_commands.proofs.StateLemmas.{Deeper}

-- ---- Separators

-- after a longest run is none of its bytes
no_more : {test : ℕ → Bool} {text front rest : List ℕ} → Longest test text front rest → Longest test rest [] rest
no_more l = record { cut = refl; passes = refl; stops = l.stops }

-- separators before what begins without one
pub skipped : {text separators begins none starts : List ℕ} → Longest is_separator text separators begins → Longest is_separator begins none starts
    → Longest is_separator text separators starts
skipped {text} {separators} l m = subst (λ t. Longest is_separator text separators t) (sym (longest_one m (no_more l)).1) l

-- the same items from another place on, with the same locations
abbrev Moved : {text : List ℕ} {items : List Item} → Items text items → List ℕ → Type 0
Moved {items = items} x other = (y : Items other items) × ((size : ℕ) → locations_of size y ≡ locations_of size x)

items_back : {text separators begins : List ℕ} {items : List Item} → Longest is_separator text separators begins → (x : Items begins items) → Moved x text
items_back l (w.nothing m) = (w.nothing (skipped l m), λ size. refl)
items_back l (w.comment m e k r x) = (w.comment (skipped l m) e k r x, λ size. refl)
items_back l (w.closing m e f x) = (w.closing (skipped l m) e f x, λ size. refl)
items_back l (w.command m c x) = (w.command (skipped l m) c x, λ size. refl)

pub front_none : {text : List ℕ} → IsFront text [] [] 0 text
front_none = record { sound = λ more x. (x, refl); nests = λ more h. h }

pub front_skip : {text rest separators begins : List ℕ} {items : List Item} {locations : List Location} {depth : ℕ} → IsFront text items locations depth rest
    → Longest is_separator rest separators begins → IsFront text items locations depth begins
front_skip {text} {locations = locations} f l = record {
  sound = λ more x.
      let back = items_back l x in
      let all = f.sound more back.0 in (all.0, all.1 ∙ ap (λ t. locations ++ t) (back.1 (length text)));
  nests = f.nests;
}

-- ---- Steps

pub at_front : {b : ℕ} {text rest : List ℕ} → text ≡ b ∷ rest → is_separator b ≡ false → Longest is_separator text [] (b ∷ rest)
at_front {b} e n = record { cut = e; passes = refl; stops = rw n refl }

pub front_comment : {b : ℕ} {text begins behind line rest : List ℕ} {items : List Item} {locations : List Location} {depth : ℕ}
    → IsFront text items locations depth begins → begins ≡ b ∷ behind → b ≡ 35 → CommentText behind line rest → IsFront text items locations depth rest
front_comment f e h k = record { sound = λ more x. f.sound more (w.comment (at_front e (rw h refl)) h k.0 k.1 x); nests = f.nests }

pub front_closing : {b depth : ℕ} {text begins behind rest : List ℕ} {items : List Item} {locations : List Location}
    → IsFront text items locations (suc depth) begins → begins ≡ b ∷ behind → b ≡ 125 → Ends behind rest
    → IsFront text (items ++ Closing ∷ []) locations depth rest
front_closing {items = items} f e h k = record {
  sound = λ more x. rw append_assoc (f.sound (Closing ∷ more) (w.closing (at_front e (rw h refl)) h k x));
  nests = λ more x. rw append_assoc (f.nests (Closing ∷ more) x);
}

-- ---- Commands

pub command_shorter : {text rest : List ℕ} {a : Address} {n : Bool} {v : WrittenVerb} → CommandText text a n v rest → length rest < length text
command_shorter c = omega (arith, tail_length (address_tail c.addresses), tail_length (tail_cut c.run), verb_text_shorter c.verbs)

pub label_item : {a : Address} {n : Bool} {name : List ℕ} (v : WrittenVerb) → v ≡ Known (Label name) → Takes v a n
    → Written a n v ≡ Written NoAddress false (Known (Label name))
label_item {a} {n} v e t = let x = subst (λ u. Takes u a n) e t in cc (x.0, x.1, e)

-- a label that is there already
pub twice : (items more all : List Item) (name : List ℕ) (i : ℕ) → IsLabelOf items name i
    → all ≡ items ++ Written NoAddress false (Known (Label name)) ∷ more → AreLabelsOnce all → ⊥
twice items more all name i here e once =
    let first : IsLabelOf all name i = rw e (get_front items _ i _ here) in
    let second : IsLabelOf all name (length items) = rw e (get_seam items more (Written NoAddress false (Known (Label name)))) in
    omega (arith, once name i (length items) first second, slice_get_within items i _ here)

-- what is right for the new depth is right before the turn
turned : (t : Turn) (depth deep : ℕ) (P : ℕ → Type 0) → Deeper t depth deep → P deep → Turned t P depth
turned Opens depth deep P h x = (h.1, subst P h.0 x)
turned Closes depth deep P h x = absurd h
turned Stays depth deep P h x = subst P h x
turned (Jumps braced) depth deep P h x = (h.1, subst P h.0 x)

pub front_command : {depth deep : ℕ} {text begins rest : List ℕ} {items : List Item} {locations : List Location} {location : Location} {a : Address}
    {n : Bool} {v : WrittenVerb} → IsFront text items locations depth begins → BeginsCommand begins → (c : CommandText begins a n v rest)
    → location ≡ location_of (length text) c → Deeper (verb_turn v) depth deep
    → IsFront text (items ++ Written a n v ∷ []) (locations ++ location ∷ []) deep rest
front_command {depth} {deep} {text} {items = items} {locations = locations} {location = location} {a = a} {n = n} {v = v} f k c e d = record {
  sound = λ more x.
      let all = f.sound (Written a n v ∷ more) (w.command (rw (← k.2) at (at_front k.2 k.3)) c x) in
      let rest = locations_of (length text) x in
      rw append_assoc (all.0, all.1 ∙ ap (λ l. locations ++ l ∷ rest) (sym e) ∙ sym (append_assoc locations (location ∷ []) rest));
  nests = λ more x. rw append_assoc (f.nests (Written a n v ∷ more) (turned (verb_turn v) depth deep (Nests more) d x));
}

-- a command takes a byte at least
pub behind_begins : {a : Address} {n : Bool} {v : WrittenVerb} (begins rest : Cursor) → rest.whole ≡ begins.whole
    → CommandText (unread begins) a n v (unread rest) → begins.at < rest.at
behind_begins begins rest same c = omega (arith, command_shorter c, unread_length begins, unread_length rest, ap (λ w. length w.now) same)

-- ---- Progress

-- the same is known where another rest is left
pub progress_at : {text old new : List ℕ} {progress : Progress} → IsProgress text old progress
    → IsFront text (map item_of progress.items.items) (locations_in progress.items.items) (length progress.open_blocks.items) new
    → ((fault : ScriptFault) → ItemsFault (length text) (map item_of progress.items.items) progress.open_blocks.items new fault
    → ItemsFault (length text) (map item_of progress.items.items) progress.open_blocks.items old fault) → IsProgress text new progress
progress_at p f back = record {
  front = f;
  labels = p.labels;
  count = p.count;
  few = p.few;
  label_places = p.label_places;
  empty = p.empty;
  faults = λ fault x. p.faults fault (back fault x);
}

-- where nothing but separators is left, the items are read
pub front_done : {text rest separators begins : List ℕ} {items : List Item} {locations : List Location} {depth : ℕ}
    → IsFront text items locations depth rest → Longest is_separator rest separators begins → length begins ≡ 0
    → (all : Items text items) × (locations ≡ locations_of (length text) all)
front_done {text} {rest} {separators} {begins} {items} {locations} f l e =
    let end = w.nothing (subst (λ t. Longest is_separator rest separators t) (nil_from_length begins e) l) in
    let all = f.sound [] end in
    subst (λ t. (all : Items text t) × (locations ≡ locations_of (length text) all)) (append-nil items) (all.0, sym (all.1 ∙ append-nil locations))

pub front_closed : {text rest : List ℕ} {items : List Item} {locations : List Location} {depth : ℕ} → IsFront text items locations depth rest → depth ≡ 0
    → Nests items 0
front_closed {items = items} f e = subst (λ t. Nests t 0) (append-nil items) (f.nests [] e)
