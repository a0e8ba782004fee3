-- Parts that are read one after another.
use Rattle.sedck_explanation.proofs.Common.{◌≡◌, ◌+◌, ℕ, List, [], ◌∷◌, ◌++◌, length, take, map, refl, sym, ap, subst, Known, AreParts}
use Rattle.std.proofs.Common.{◌<◌, get_or}
use Rattle.std.proofs.lemmas.List.{take_more}
use Rattle.sedck_call.specs.declared.call.Piece.{Piece}
use Rattle.sedck_explanation.specs.Called.{IsPart}

-- one part more
parts_snoc : (k : Known) (words : List (List ℕ)) (pieces : List Piece) (parts : List (List ℕ)) (piece : Piece) (part : List ℕ)
    → AreParts k words pieces parts → IsPart k words piece part → AreParts k words (pieces ++ piece ∷ []) (parts ++ part ∷ [])
parts_snoc k words [] parts piece part are is = (part, [], ap (λ front. front ++ part ∷ []) are, is, refl)
parts_snoc k words (first ∷ pieces) parts piece part are is =
    (are.0, are.1 ++ part ∷ [], ap (λ front. front ++ part ∷ []) are.2, are.3, parts_snoc k words pieces are.1 piece part are.4 is)

pub next_part : {X : Type 0} (f : X → List ℕ) (k : Known) (words : List (List ℕ)) (pieces : List Piece) (parts : List X) (i : ℕ) (d : Piece) (part : X)
    → i < length pieces → AreParts k words (take i pieces) (map f parts) → IsPart k words (get_or pieces i d) (f part)
    → AreParts k words (take (i + 1) pieces) (map f (parts ++ part ∷ []))
next_part f k words pieces parts i d part within are is =
    subst (λ front. AreParts k words front (map f (parts ++ part ∷ []))) (sym (take_more pieces i d within))
    (subst (λ all. AreParts k words (take i pieces ++ get_or pieces i d ∷ []) all) (sym (mapped f parts part))
    (parts_snoc k words (take i pieces) (map f parts) (get_or pieces i d) (f part) are is))
  where
    mapped : {X : Type 0} (f : X → List ℕ) (parts : List X) (part : X) → map f (parts ++ part ∷ []) ≡ map f parts ++ f part ∷ []
    mapped f [] part = refl
    mapped f (first ∷ parts) part = ap (λ rest. f first ∷ rest) (mapped f parts part)
