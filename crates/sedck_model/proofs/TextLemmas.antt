-- Lists of lines that are compared line by line.
use Rattle.sedck_model.proofs.Common.{◌≡◌, ℕ, ◌<◌, Bool, IsTrue, List, [], ◌∷◌, ◌++◌, length, get_or, take, drop, ◌-◌, refl, sym, ap, ◌∙◌, arith, take_all, Bor, false≢true, lines_of}
use Rattle.std.proofs.Common.{◌↔◌}
use Rattle.std.proofs.lemmas.List.{append_cancel_left}
use Rattle.std.specs.Bool.{Decides}
use Rattle.std.specs.Cmp.Lexicographic.{pointwise}
use Rattle.std.proofs.lemmas.Bool.Decides.{Decides-and, Decides-like}

pub same_lines-decides : (E : Bor (List ℕ) → Bor (List ℕ) → Bool) → ((a b : Bor (List ℕ)) → Decides (E a b) (a.now ≡ b.now))
    → (xs ys : List (Bor (List ℕ))) → Decides (pointwise E xs ys) (lines_of xs ≡ lines_of ys)
same_lines-decides E each [] [] = (λ _. refl, λ _. refl)
same_lines-decides E each [] (y ∷ ys) = (λ e. absurd (false≢true e), λ e. absurd (cc))
same_lines-decides E each (x ∷ xs) [] = (λ e. absurd (false≢true e), λ e. absurd (cc))
same_lines-decides E each (x ∷ xs) (y ∷ ys) =
    Decides-like _ (λ h. let one = h.0 in let more = h.1 in cc) (λ e. (cc, cc))
    (Decides-and (E x y) (pointwise E xs ys) (each x y) (same_lines-decides E each xs ys))

-- a text that begins with a newline, by its first byte and the rest
pub newline_first : (text back : List ℕ) (same : Bool) → 0 < length text → get_or text 0 0 ≡ 10
    → Decides same (take (length text - 1) (drop 1 text) ≡ back) → IsTrue same ↔ (text ≡ 10 ∷ back)
newline_first [] back same some byte rest = absurd (omega (arith, some))
newline_first (b ∷ bytes) back same some byte rest =
    let whole : take (length (b ∷ bytes) - 1) bytes ≡ bytes = take_all _ bytes (omega arith) in
    (λ e. let h = rest.0 e in cc, λ e. rest.1 (cc))

-- what is left of a text behind its front
pub behind_front : (text front rest back : List ℕ) (test : Bool) → text ≡ front ++ rest → IsTrue test ↔ (rest ≡ back) → IsTrue test ↔ (text ≡ front ++ back)
behind_front text front rest back test is same =
    (λ e. is ∙ ap (λ s. front ++ s) (same.0 e), λ e. same.1 (append_cancel_left front rest back (sym is ∙ e)))
