-- From the words to what they ask for.
use Rattle.sedck_explain_cli.proofs.Common.{◌≡◌, ◌≢◌, ◌∙◌, ◌+◌, ◌-◌, ◌<◌, ◌≤◌, ℕ, Bool, true, false, List, [], ◌∷◌, length, map, get_or, take, drop, Option, Some, None, String, refl, sym, ap, subst, arith, fold, Global, texts_of, Asked, after, nothing_asked, is_named}
use Rattle.std.proofs.Common.{◌==◌, ◌||◌, suc, ◌++◌, length-drop, string_bytes}
use Rattle.std.specs.Prelude.{option_map, MatchOption}
use Rattle.std.specs.List.{list_any}
use Rattle.std.specs.Str.{bytes_eq}
use Rattle.std.specs.Borrow.{Bor}
use Rattle.std.specs.Str.Pattern.{FindsTextPrefix, StripsPrefix}
use Rattle.std.proofs.Math.Seq.{drop-cons}
use Rattle.std.proofs.lemmas.Bool.{eqb-true, ne_eqb}
use Rattle.std.proofs.lemmas.List.{length-map, get_or-map, get_or-drop, take_more}
use Rattle.std.proofs.lemmas.List.Sums.{fold_more}
use Rattle.std.proofs.lemmas.Bool.Decides.{Decides-eqb}
use Rattle.sedck_explain_cli.specs.Readings.{behind, pieces, is_among}

none_some : (rest : List ℕ) → None ≡ Some rest → ⊥
none_some rest e = cc e

behind_step : (b c : ℕ) (prefix text rest : List ℕ) (same : Bool) → (b == c) ≡ same → (behind prefix text ≡ Some rest → text ≡ prefix ++ rest)
    → behind (b ∷ prefix) (c ∷ text) ≡ Some rest → c ∷ text ≡ b ∷ (prefix ++ rest)
behind_step b c prefix text rest true is more found =
    let tail = more (rw is at found) in
    let first : b ≡ c = eqb-true b c is in
    cc (tail, first)
behind_step b c prefix text rest false is more found = absurd (none_some rest (rw is at found))

-- a text that begins with the prefix goes on with what is behind it
behind_is : (prefix text rest : List ℕ) → behind prefix text ≡ Some rest → text ≡ prefix ++ rest
behind_is [] text rest e = cc e
behind_is (b ∷ prefix) [] rest e = cc e
behind_is (b ∷ prefix) (c ∷ text) rest e = behind_step b c prefix text rest (b == c) refl (behind_is prefix text rest) e

behind_some : (prefix rest : List ℕ) → behind prefix (prefix ++ rest) ≡ Some rest
behind_some [] rest = refl
behind_some (b ∷ prefix) rest =
    let same : (b == b) ≡ true = (Decides-eqb b b).1 refl in
    rw same (behind_some prefix rest)

-- what `strip_prefix` answers
pub stripped : (prefix text : List ℕ) (r : Option (Bor (List ℕ)))
    → MatchOption r (FindsTextPrefix prefix text None) (λ rest. StripsPrefix (FindsTextPrefix prefix) text rest.now)
    → option_map (λ rest. rest.now) r ≡ behind prefix text
stripped prefix text None lacks = go (behind prefix text) refl
  where
    go : (found : Option (List ℕ)) → behind prefix text ≡ found → None ≡ behind prefix text
    go None e = sym e
    go (Some rest) e = absurd (lacks rest (behind_is prefix text rest e))
stripped prefix text (Some rest) strips =
    let split : text ≡ prefix ++ rest.now = strips.1.1 ∙ ap (λ r. prefix ++ r) (sym strips.2) in
    subst (λ t. Some rest.now ≡ behind prefix t) (sym split) (sym (behind_some prefix rest.now))

-- ---- One word more

abbrev pub bytes_of : String Global → List ℕ
bytes_of word = string_bytes word

pub next_asked : (words : List (String Global)) (i : ℕ) (d : String Global) (so_far : Asked) (text : List ℕ)
    → so_far ≡ fold after nothing_asked (take i (texts_of words)) → i < length words → text ≡ string_bytes (get_or words i d)
    → after so_far text ≡ fold after nothing_asked (take (i + 1) (texts_of words))
next_asked words i d so_far text is within same =
    let below = subst (λ n. i < n) (sym (length-map words bytes_of)) within in
    ap (after so_far) (same ∙ sym (get_or-map bytes_of words i d [] within))
    ∙ ap (λ a. after a (get_or (texts_of words) i [])) is ∙ sym (fold_more after nothing_asked (texts_of words) i [] below)

-- ---- Names with commas between

-- the name is one of those that this piece begins
abbrev pub any_named : List ℕ → List ℕ → List ℕ → Bool
any_named name piece text = list_any (λ piece. bytes_eq piece name) (pieces piece text)

plain_step : (name piece : List ℕ) (b : ℕ) (text : List ℕ) → (b == 44) ≡ false → any_named name piece (b ∷ text) ≡ any_named name (piece ++ b ∷ []) text
plain_step name piece b text is = rw is refl

comma_step : (name piece : List ℕ) (b : ℕ) (text : List ℕ) → (b == 44) ≡ true → bytes_eq piece name ≡ false
    → any_named name piece (b ∷ text) ≡ any_named name [] text
comma_step name piece b text is differs = rw (is, differs) refl

cut : (list : List ℕ) (at : ℕ) → at < length list → drop at list ≡ get_or list at 0 ∷ drop (at + 1) list
cut list at within = drop-cons list at 0 within ∙ (let e : suc at ≡ at + 1 = omega arith in ap (λ n. get_or list at 0 ∷ drop n list) e)

-- the piece with one byte more
front : (list : List ℕ) (start at : ℕ) → start ≤ at → at < length list
    → take (at - start) (drop start list) ++ get_or list at 0 ∷ [] ≡ take (at + 1 - start) (drop start list)
front list start at order within =
    let i = at - start in
    let last : start + i ≡ at = omega arith in
    let count : i + 1 ≡ at + 1 - start = omega arith in
    let below : i < length (drop start list) = omega (arith, length-drop start list) in
    ap (λ b. take i (drop start list) ++ b ∷ []) (sym (get_or-drop start list i 0 ∙ ap (λ n. get_or list n 0) last))
    ∙ sym (take_more (drop start list) i 0 below) ∙ ap (λ n. take n (drop start list)) count

pub named_plain : (list name : List ℕ) (start at : ℕ) → start ≤ at → at < length list → get_or list at 0 ≢ 44
    → any_named name (take (at + 1 - start) (drop start list)) (drop (at + 1) list) ≡ any_named name (take (at - start) (drop start list)) (drop at list)
named_plain list name start at order within other =
    let piece = take (at - start) (drop start list) in
    sym (ap (any_named name piece) (cut list at within) ∙ plain_step name piece (get_or list at 0) (drop (at + 1) list) (ne_eqb (get_or list at 0) 44 other)
    ∙ ap (λ p. any_named name p (drop (at + 1) list)) (front list start at order within))

pub named_comma : (list name : List ℕ) (start at : ℕ) → at < length list → get_or list at 0 ≡ 44
    → bytes_eq (take (at - start) (drop start list)) name ≡ false
    → any_named name (take (at + 1 - (at + 1)) (drop (at + 1) list)) (drop (at + 1) list)
    ≡ any_named name (take (at - start) (drop start list)) (drop at list)
named_comma list name start at within comma differs =
    let piece = take (at - start) (drop start list) in
    let none : at + 1 - (at + 1) ≡ 0 = omega arith in
    sym (ap (any_named name piece) (cut list at within)
    ∙ comma_step name piece (get_or list at 0) (drop (at + 1) list) ((Decides-eqb (get_or list at 0) 44).1 comma) differs
    ∙ ap (λ n. any_named name (take n (drop (at + 1) list)) (drop (at + 1) list)) (sym none))

-- ---- Lists of names

-- the lists as they are borrowed, and their bytes
pub any_mapped : (name : List ℕ) (lists : List (Bor (List ℕ))) → list_any (λ list. is_named list.now name) lists ≡ is_among (map (λ list. list.now) lists) name
any_mapped name [] = refl
any_mapped name (list ∷ lists) = ap (λ more. is_named list.now name || more) (any_mapped name lists)
