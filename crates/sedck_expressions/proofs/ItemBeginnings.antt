-- How the text of an item begins: never with `\)` or `\{`, and with `*` only where that is a byte.
use Rattle.sedck_expressions.proofs.Common.{◌≡◌, ℕ, Bool, true, false, List, [], ◌∷◌, ◌++◌, Option, refl, sym, ap, subst, ◌∙◌, arith, append_assoc, codes, nat_tests, begins, opening, Tree, Trees, Byte, Set, Repeat, Nil, Then, IsBracketList, Level, Position, is_empty, behind, SpellsByte, SpellsCount, SpellsItem, SpellsItems, begins_pair, at_end, is_repeatable, Later}
use Rattle.sedck_expressions.proofs.ReadLemmas.{not_empty_more}

pub record Front (place : Position) (text : List ℕ) : Type 0 where
  pub going : at_end text ≡ false
  pub star : place ≡ Later → begins "*" text ≡ false
  pub brace : begins_pair 123 text ≡ false

byte_front : (place : Position) (text w : List ℕ) (c : ℕ) (tail : List ℕ) → SpellsByte place text w c → Front place (text ++ tail)
byte_front place text w c tail h = grind (arith, nat_tests)

-- a bracket list begins with a bracket
pub bracket_front : (text words : List ℕ) → IsBracketList text words → (u : List ℕ) × (text ≡ 91 ∷ u)
bracket_front text words l = go l.complement l.written
  where
    go : (b : Bool) → text ≡ opening b ++ l.inside ++ codes "]" → (u : List ℕ) × (text ≡ 91 ∷ u)
    go true e = (94 ∷ (l.inside ++ codes "]"), e)
    go false e = (l.inside ++ codes "]", e)

bracket_begins : (place : Position) (text u tail : List ℕ) → text ≡ 91 ∷ u → Front place (text ++ tail)
bracket_begins place text u tail is = grind (arith, nat_tests)

pub item_front : (t : Tree) (level : Level) (place : Position) (text w tail : List ℕ) → SpellsItem level place text w t → Front place (text ++ tail)
item_front (Byte c) level place text w tail h = byte_front place text w c tail h
item_front (Set words) level place text w tail h = let b = bracket_front text words h.0 in bracket_begins place text b.0 tail b.1
item_front (Repeat body least most) level place text w tail h =
    subst (Front place) (sym (ap (λ x. x ++ tail) h.2 ∙ append_assoc h.0 h.1 tail)) (item_front body level place h.0 (h.1 ++ w) (h.1 ++ tail) h.4)
item_front t level place text w tail h = grind (arith, nat_tests)

-- no item has an empty text
pub item_some : (t : Tree) (level : Level) (place : Position) (text w : List ℕ) → SpellsItem level place text w t → is_empty text ≡ false
item_some t level place text w h = some text (item_front t level place text w [] h).going
  where
    some : (text : List ℕ) → at_end (text ++ []) ≡ false → is_empty text ≡ false
    some text going = grind arith

pub sign_some : (v : List ℕ) (least : ℕ) (most : Option ℕ) (tail : List ℕ) → SpellsCount v least most → (is_empty v ≡ false) × (at_end (v ++ tail) ≡ false)
sign_some v least most tail c = grind (arith, nat_tests)

-- what follows a list: nothing, or `\)`
end_front : (rest : List ℕ) → at_end rest ≡ true → (begins "*" rest ≡ false) × (begins_pair 123 rest ≡ false)
end_front rest h = grind (arith, nat_tests)

-- the list is over exactly where nothing is left of its text
pub list_ends : (ts : Trees) (level : Level) (place : Position) (w rest : List ℕ) → SpellsItems level place w ts → at_end rest ≡ true
    → is_empty w ≡ at_end (w ++ rest)
list_ends Nil level place w rest h e = rw h (sym e)
list_ends (Then t ts) level place w rest h e =
    ap is_empty h.2 ∙ not_empty_more h.0 h.1 (item_some t level place h.0 h.1 h.3)
    ∙ sym (ap at_end (ap (λ x. x ++ rest) h.2 ∙ append_assoc h.0 h.1 rest) ∙ (item_front t level place h.0 h.1 (h.1 ++ rest) h.3).going)

-- no sign of repetition begins what is left of a list
pub no_sign : (ts : Trees) (level : Level) (w rest : List ℕ) → SpellsItems level Later w ts → at_end rest ≡ true
    → (begins "*" (w ++ rest) ≡ false) × (begins_pair 123 (w ++ rest) ≡ false)
no_sign Nil level w rest h e = rw h (end_front rest e)
no_sign (Then t ts) level w rest h e =
    let f = item_front t level Later h.0 h.1 (h.1 ++ rest) h.3 in
    let cut = ap (λ x. x ++ rest) h.2 ∙ append_assoc h.0 h.1 rest in
    (ap (begins "*") cut ∙ f.star refl, ap (begins_pair 123) cut ∙ f.brace)

pub behind_repeatable : (place : Position) (t : Tree) → is_repeatable t ≡ true → behind place t ≡ Later
behind_repeatable place t h = grind arith
