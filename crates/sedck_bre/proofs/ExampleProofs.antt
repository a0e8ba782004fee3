-- The worked examples of expressions hold.
use Rattle.sedck_bre.proofs.Common.{◌≡◌, ℕ, List, [], ◌∷◌, ◌++◌, refl, sym, arith, inl, inr, ◌⊎◌, Tree, Byte, Group, Ref, trees, Groups, no_groups, text_of, unset, Match, MatchAll, Language, with_text, Times, Ok, codes, append-nil, All, shape_of, none_of}
use Rattle.std.proofs.Common.{Some}
use Rattle.std.proofs.lemmas.List.Elements.{All-nil, All-cons}
use Rattle.sedck_bre.specs.Examples.{sequence_of, text_tree, star, spelled_texts, refused_texts, two_or_three, any_number, nested, ExamplesHold}
use Rattle.sedck_expressions.specs.Reading.{read, items}
use Rattle.sedck_expressions.specs.BracketReading.{bracket_at, elements_at, holder}
use Rattle.sedck_expressions.specs.IntervalReading.{interval_at}
use Rattle.sedck_expressions.specs.FirstFault.{full, first_fault}
use Rattle.sedck_bre.proofs.LeastFloor.{least-floor}

-- a group with a text of two bytes
group_ab : (k a b : ℕ) (e : Groups) → Match (Group k (text_tree (a ∷ b ∷ []))) e (a ∷ b ∷ []) (with_text e k (a ∷ b ∷ []))
group_ab k a b e = (e, e, inl refl, (a ∷ [], b ∷ [], e, refl, (refl, refl), (b ∷ [], [], e, refl, (refl, refl), (refl, refl))), refl)

-- `ababab` is
two_or_three_match : Language two_or_three (codes "ababab")
two_or_three_match =
    let one : Groups = with_text no_groups 1 (codes "ab") in
    let two : Groups = with_text one 1 (codes "ab") in
    let rounds : Times (Match (Group 1 (text_tree (codes "ab")))) 2 no_groups (codes "abab") two =
    (codes "ab", codes "ab", one, refl, group_ab 1 97 98 no_groups, (codes "ab", [], two, refl, group_ab 1 97 98 one, (refl, refl))) in
    let rest : MatchAll (trees (star (Byte 99) ∷ Ref 1 ∷ [])) two (codes "ab") two =
    ([], codes "ab", two, refl, (0, omega arith, (refl, refl)), (codes "ab", [], two, refl, (refl, refl), (refl, refl))) in
    (two, (codes "abab", codes "ab", two, refl, (2, (omega arith, omega arith), rounds), rest))

-- the empty text is in its language: a group that took no part counts as empty
any_number_empty : Language any_number []
any_number_empty = (no_groups, ([], [], no_groups, refl, (0, omega arith, (refl, refl)), ([], [], no_groups, refl, (refl, refl), (refl, refl))))

-- Whether a group keeps the texts of the groups inside it: after `\(\(a\)*b\)*` has matched `ab` and then `b`, group 2 has `a` or nothing, so both
-- `abba` and `abb` are in the language of `\(\(a\)*b\)*\2`.
abbrev inner : Tree
inner = sequence_of (star (Group 2 (text_tree (codes "a"))) ∷ Byte 98 ∷ [])

abbrev inner_text : Groups
inner_text = with_text no_groups 2 (codes "a")

abbrev one_round : Groups
one_round = with_text inner_text 1 (codes "ab")

first_round : Match (Group 1 inner) no_groups (codes "ab") one_round
first_round =
    let group_a : Match (Group 2 (text_tree (codes "a"))) no_groups (codes "a") inner_text =
    (no_groups, no_groups, inl refl, (codes "a", [], no_groups, refl, (refl, refl), (refl, refl)), refl) in
    let starred : Match (star (Group 2 (text_tree (codes "a")))) no_groups (codes "a") inner_text =
    (1, omega arith, (codes "a", [], inner_text, refl, group_a, (refl, refl))) in
    (no_groups, inner_text, inl refl, (codes "a", codes "b", inner_text, refl, starred, (codes "b", [], inner_text, refl, (refl, refl), (refl, refl))), refl)

-- the second round, from group texts that it may have kept or unset
second_round : (e d : Groups) → (d ≡ e) ⊎ (d ≡ unset inner e) → Match (Group 1 inner) e (codes "b") (with_text d 1 (codes "b"))
second_round e d h = (d, d, h, ([], codes "b", d, refl, (0, omega arith, (refl, refl)), (codes "b", [], d, refl, (refl, refl), (refl, refl))), refl)

both_rounds : (d : Groups) → (d ≡ one_round) ⊎ (d ≡ unset inner one_round) → Language nested (codes "abb" ++ text_of (with_text d 1 (codes "b")) 2)
both_rounds d h =
    let two : Groups = with_text d 1 (codes "b") in
    let back : List ℕ = text_of two 2 in
    let rounds : Times (Match (Group 1 inner)) 2 no_groups (codes "abb") two =
    (codes "ab", codes "b", one_round, refl, first_round, (codes "b", [], two, refl, second_round one_round d h, (refl, refl))) in
    (two, (codes "abb", back, two, refl, (2, omega arith, rounds), (back, [], two, sym (append-nil back), (refl, refl), (refl, refl))))

-- Reading each text gives its tree, and so the text spells it; or it stops at the fault, and so the text spells no tree.
abbrev Each : {X : Type 0} → (X → Type 0) → List X → Type 0
Each P [] = Unit {0}
Each P (x ∷ xs) = P x × Each P xs

all_of : {X : Type 0} (P Q : X → Type 0) → ((x : X) → P x → Q x) → (xs : List X) → Each P xs → All Q xs
all_of P Q f [] h = All-nil Q
all_of P Q f (x ∷ xs) h = All-cons Q x xs (f x h.0) (all_of P Q f xs h.1)

are_read : Each (λ example. read full example.0 ≡ Ok example.1) spelled_texts
unfolding read items bracket_at elements_at interval_at
are_read = (refl, (refl, (refl, (refl, (refl, (refl, (refl, (refl, (refl, (refl, (refl, (refl, (refl, (refl, (refl, tt)))))))))))))))

have_faults : Each (λ example. first_fault example.0 ≡ Some example.1) refused_texts
unfolding first_fault read items bracket_at elements_at holder interval_at
have_faults = (refl, (refl, (refl, (refl, (refl, (refl, (refl, (refl, (refl, (refl, (refl, (refl, (refl, (refl, (refl, (refl, (refl, (refl, (refl, (refl, (refl, (refl, (refl, (refl, (refl, (refl, tt))))))))))))))))))))))))))

pub examples_hold : ExamplesHold
examples_hold = record {
  spelled = all_of _ _ (λ example. shape_of example.0 example.1) spelled_texts are_read;
  refused = all_of _ _ (λ example. none_of example.0 example.1) refused_texts have_faults;
  first = all_of (λ example. first_fault example.0 ≡ Some example.1) _ (λ example h. h) refused_texts have_faults;
  matches = two_or_three_match;
  no_shorter = λ w. least-floor two_or_three w (refl, tt);
  took_no_part = any_number_empty;
  kept = both_rounds one_round (inl refl);
  unset = both_rounds (unset inner one_round) (inr refl);
  character = (λ e. cc, refl);
  no_character = λ m. cc;
  no_text = λ m. m.0 refl;
  byte_alone = λ m. cc;
}
