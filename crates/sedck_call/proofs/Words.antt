-- Words that are read one after another.
use Rattle.std.proofs.Common.{◌≡◌, ◌⊎◌, inl, inr, ◌<◌, ◌++◌, ◌∙◌, ◌+◌, ℕ, suc, List, [], ◌∷◌, length, get_or, take, drop, map, flat_map, Option, Some, None, refl, sym, ap, subst, append_assoc, arith}
use Rattle.std.proofs.lemmas.List.{at_drop_more, drop_more, take_more, flat_map_more, length-map, get_or-map}
use Rattle.sedck_call.specs.Options.{taken_by, short_option}
use Rattle.sedck_call.specs.Scripts.{on_new_line}
use Rattle.sedck_call.specs.Words.{Reading, Outcome, letters, attached, after_word, after_words, going_on, letter}
use Rattle.sedck_call.specs.declared.option.CallOption.{CallOption}
use Rattle.sedck_call.specs.declared.option.Taken.TheVariants as taken

attached_first : (r : Reading) (n from b c : ℕ) (rest : List ℕ) (o : CallOption) → short_option b ≡ Some o
    → (taken_by o ≡ taken.Argument) ⊎ (taken_by o ≡ taken.Suffix) → letters r n from (b ∷ c ∷ rest) ≡ attached r n (suc from) o (taken_by o)
attached_first r n from b c rest o short (inl is) =
    rw short (ap (letter r n (suc from) (c ∷ rest) (λ next. letters next n (suc from) (c ∷ rest)) o) is)
attached_first r n from b c rest o short (inr is) =
    rw short (ap (letter r n (suc from) (c ∷ rest) (λ next. letters next n (suc from) (c ∷ rest)) o) is)

-- a letter that takes the rest of its word
pub attached_letter : (r : Reading) (n from : ℕ) (word : List ℕ) (o : CallOption) → from + 1 < length word
    → short_option (get_or word from 0) ≡ Some o → (taken_by o ≡ taken.Argument) ⊎ (taken_by o ≡ taken.Suffix)
    → letters r n from (drop from word) ≡ attached r n (from + 1) o (taken_by o)
attached_letter r n from word o within short takes =
    at_drop_more (λ rest. letters r n from rest) word from 0 (omega (arith, within))
    ∙ ap (λ rest. letters r n from (get_or word from 0 ∷ rest)) (drop_more word (from + 1) 0 within)
    ∙ attached_first r n from (get_or word from 0) (get_or word (from + 1) 0) (drop (from + 1 + 1) word) o short takes
    ∙ ap (λ k. attached r n k o (taken_by o)) (omega arith)

-- the next of some words
pub next_word : {X : Type 0} (f : X → List ℕ) (r : Reading) (words : List X) (i : ℕ) (d : X) → i < length words
    → after_words r i (drop i (map f words))
    ≡ going_on i (λ next. after_words next (i + 1) (drop (i + 1) (map f words))) (after_word r i (f (get_or words i d)))
next_word f r words i d within =
    at_drop_more (λ rest. after_words r i rest) (map f words) i [] (subst (λ n. i < n) (sym (length-map words f)) within)
    ∙ ap (λ k. going_on i (λ next. after_words next k (drop (i + 1) (map f words))) (after_word r i (get_or (map f words) i []))) (omega arith)
    ∙ ap (λ word. going_on i (λ next. after_words next (i + 1) (drop (i + 1) (map f words))) (after_word r i word)) (get_or-map f words i d [] within)

-- one part more
pub next_part : {X : Type 0} (f : X → List ℕ) (text : List ℕ) (parts : List X) (i : ℕ) (d : X) → i < length parts
    → ((text ++ flat_map on_new_line (take i (map f parts))) ++ (10 ∷ [])) ++ f (get_or parts i d)
    ≡ text ++ flat_map on_new_line (take (i + 1) (map f parts))
next_part f text parts i d within =
    append_assoc (text ++ flat_map on_new_line (take i (map f parts))) (10 ∷ []) (f (get_or parts i d))
    ∙ flat_map_more on_new_line text (take i (map f parts)) (f (get_or parts i d))
    ∙ ap (λ front. text ++ flat_map on_new_line front)
    (ap (λ part. take i (map f parts) ++ part ∷ []) (sym (get_or-map f parts i d [] within))
    ∙ sym (take_more (map f parts) i [] (subst (λ n. i < n) (sym (length-map parts f)) within)))
