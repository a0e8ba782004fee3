-- What was read of an input, piece by piece.
use Rattle.sedck_engines.proofs.Common.{◌≡◌, ℕ, ◌≤◌, List, [], ◌++◌, length, take, Option, Some, None, IfSome, sym, ap, ◌∙◌, append-nil, subst, Consumes-trans, take-append_seam, take_all, Consumes, IsAtEnd}

-- the limit was reached
pub read_to_limit : (before after : Option (List ℕ)) (bytes : List ℕ) (limit : ℕ) → Consumes before after bytes → length bytes ≡ limit
    → IfSome before (λ text. bytes ≡ take limit text)
read_to_limit None after bytes limit taken full = tt
read_to_limit (Some text) None bytes limit taken full = absurd taken
read_to_limit (Some text) (Some rest) bytes limit taken full =
    sym (ap (λ n. take n text) (sym full) ∙ ap (take (length bytes)) taken ∙ take-append_seam bytes rest)

-- nothing is left
all_taken : (before after : Option (List ℕ)) (bytes : List ℕ) (limit : ℕ) → Consumes before after bytes → IsAtEnd after → length bytes ≤ limit
    → IfSome before (λ text. bytes ≡ take limit text)
all_taken None after bytes limit taken end within = tt
all_taken (Some text) None bytes limit taken end within = absurd taken
all_taken (Some text) (Some rest) bytes limit taken end within =
    let all : text ≡ bytes = taken ∙ ap (λ l. bytes ++ l) end ∙ append-nil bytes in
    sym (ap (take limit) all ∙ take_all limit bytes within)

-- the end was reached: the last read gave nothing
pub read_to_end : (before mid after : Option (List ℕ)) (bytes buf : List ℕ) (count limit : ℕ) → Consumes before mid bytes → Consumes mid after (take count buf)
    → count ≡ 0 → IsAtEnd after → length bytes ≤ limit → IfSome before (λ text. bytes ≡ take limit text)
read_to_end before mid after bytes buf count limit taken last none end within =
    let front : ℕ → Type 0 = λ n. Consumes mid after (take n buf) in
    let joined = Consumes-trans before mid after bytes [] taken (subst front none last) in
    all_taken before after bytes limit (subst (Consumes before after) (append-nil bytes) joined) end within
