-- The lists at the locations of commands are those of the script.
use Rattle.std.proofs.Common.{◌≡◌, ◌<◌, ◌≤◌, ◌+◌, ◌⊎◌, inl, inr, ℕ, List, [], ◌∷◌, Option, Some, None, Bor, refl, ap, sym, ◌∙◌, subst, length-append, arith}
use Rattle.std.proofs.lemmas.List.{take_all, drop_all, length-drop}
use Rattle.std.specs.Prelude.{slice_range, drop, ◌-◌, length, unwrap_or, MatchOption}
use Rattle.sedck_commands.specs.Items.{Item, Items}
use Rattle.sedck_commands.specs.Items as w
use Rattle.sedck_commands.specs.Locations.{locations_of}
use Rattle.sedck_commands.specs.Private.Reading.{EndsIn}
use Rattle.sedck_commands.proofs.OffsetLemmas.{tail_cut, tail_tail, tail_behind, ends_tail, verb_text_tail, take_front}
use Rattle.sedck_commands.proofs.CommandLemmas.{address_tail}
use Rattle.sedck_commands.specs.declared.location.Location.{Location}
use Rattle.sedck_plain.specs.WrittenLists.{command_lists, written_lists}
use Rattle.sedck_plain.specs.Private.Cutting.{HasLeft, AreLists, AreCommandLists, AreScriptLists, AreLocations, HasLists}
use Rattle.sedck_plain.proofs.LeftLemmas.{left_command}

-- what is got of a text from an offset on, and nothing behind its end
pub begin_at : (text : List ℕ) (start : ℕ) (got : Option (Bor (List ℕ))) (begin other : Bor (List ℕ)) → begin ≡ unwrap_or got other → other.now ≡ []
    → MatchOption got ((length text < start) ⊎ (length text < length text))
    (λ x. (start ≤ length text) × (length text ≤ length text) × (x.now ≡ slice_range text start (length text)) × (length x.now + start ≡ length text))
    → begin.now ≡ drop start text
begin_at text start None begin other e o (inl short) = ap (λ (b : Bor (List ℕ)). b.now) e ∙ (o ∙ sym (drop_all start text (omega (arith, short))))
begin_at text start None begin other e o (inr never) = absurd (omega (arith, never))
begin_at text start (Some x) begin other e o h =
    ap (λ (b : Bor (List ℕ)). b.now) e ∙ (h.2 ∙ take_all (length text - start) (drop start text) (omega (arith, length-drop start text)))

pub lists_of_command : (text lists : List ℕ) (location : Location) → AreLists (drop location.start text) lists → AreCommandLists text location lists
lists_of_command text lists location h begin given negated verb rest here d =
    h (command_lists here) (subst (λ t. HasLeft t (command_lists here)) d (left_command here))

-- what ends a text is what is left at its offset
tail_drop : (text tail : List ℕ) → EndsIn text tail → tail ≡ drop (length text - length tail) text
tail_drop text tail h =
    let n : length text - length tail ≡ length h.0 = omega (arith, ap length h.1, length-append h.0 tail) in
    sym (ap (drop (length text - length tail)) h.1 ∙ (take_front h.0 tail _ n).1)

pub lists_of_script : (whole text : List ℕ) (items : List Item) (all : List (List ℕ)) (spelled : Items text items) → EndsIn whole text
    → AreScriptLists whole (locations_of (length whole) spelled) all → written_lists spelled ≡ all
lists_of_script whole text items all (w.nothing m) t h = sym h
lists_of_script whole text items all (w.comment m e k r x) t h =
    lists_of_script whole _ _ all x (tail_tail (tail_behind (tail_tail t (tail_cut m)) refl) (tail_cut k)) h
lists_of_script whole text items all (w.closing m e f x) t h =
    lists_of_script whole _ _ all x (tail_tail (tail_behind (tail_tail t (tail_cut m)) refl) (ends_tail f)) h
lists_of_script whole text items [] (w.command m c x) t h = absurd h
lists_of_script whole text items (lists ∷ all) (w.command m c x) t h =
    let begin = tail_tail t (tail_cut m) in
    let verb = tail_tail begin (tail_tail (address_tail c.addresses) (tail_cut c.run)) in
    let first = h.0 _ _ _ _ _ c (tail_drop whole _ begin) in
    let others = lists_of_script whole _ _ all x (tail_tail verb (verb_text_tail c.verbs)) h.1 in
    cc (first, others)

pub no_script_lists : (text : List ℕ) (locations : List Location) → locations ≡ [] → AreScriptLists text locations []
no_script_lists text [] e = refl
no_script_lists text (l ∷ ls) e = absurd (cc e)

pub lists_read : (text : List ℕ) (locations : List Location) (all : List (List ℕ)) → AreLocations text locations → AreScriptLists text locations all
    → HasLists text all
lists_read text locations all h k items spelled =
    lists_of_script text text items all spelled ([], refl) (subst (λ l. AreScriptLists text l all) (h items spelled) k)
