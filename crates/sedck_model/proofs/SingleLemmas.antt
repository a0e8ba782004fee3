-- The text of a group once more.
use Rattle.sedck_model.proofs.Common.{◌≡◌, ℕ, ◌+◌, ◌-◌, ◌≤◌, true, false, eqb, List, ◌++◌, length, take, drop, Some, None, refl, sym, ap, ◌∙◌, arith, length-append, length-drop, same_text, other_text, take_at, take-append-drop, text_of, Spot, Reached, groups_of, IsNext, Repeats}
use Rattle.std.specs.List.{starts_with}
use Rattle.std.proofs.lemmas.List.{take_rest, drop-drop}
use Rattle.std.proofs.lemmas.List.Prefix.{front_rest}

pub repeats_next : (text found : List ℕ) (s : Spot) (k : ℕ) → s.at ≤ length text → found ≡ text_of (groups_of text s.groups) k
    → true ≡ starts_with eqb (take (length text - s.at) (drop s.at text)) found
    → IsNext (Repeats k) text s (Some (record { at = s.at + length found; groups = s.groups }))
repeats_next text found s k within is begins =
    let rest = drop s.at text in
    let after = drop (length found) rest in
    let same : found ≡ take (length found) rest =
    same_text found (take (length found) (take (length text - s.at) rest)) begins ∙ ap (take (length found)) (take_rest text s.at) in
    let whole : rest ≡ found ++ after = sym (take-append-drop (length found) rest) ∙ ap (λ w. w ++ after) (sym same) in
    let later : after ≡ drop (s.at + length found) text = drop-drop (length found) s.at text in (
      omega (arith, ap length whole, length-append found after, length-drop s.at text),
      λ to. (
        λ (cut, groups).
            let tail : to.rest ≡ drop (s.at + length found) text =
            sym (front_rest rest found to.rest (cut ∙ ap (λ w. w ++ to.rest) (sym is))) ∙ later in
            λ i. record { rest = tail i; groups = groups i },
        λ here.
            let tail : after ≡ to.rest = later ∙ sym (ap (λ (r : Reached). r.rest) here) in
            (whole ∙ (λ i. is i ++ tail i), ap (λ (r : Reached). r.groups) here),
      ),
    )

pub repeats_none : (text found : List ℕ) (s : Spot) (k : ℕ) → found ≡ text_of (groups_of text s.groups) k
    → false ≡ starts_with eqb (take (length text - s.at) (drop s.at text)) found → IsNext (Repeats k) text s None
repeats_none text found s k is begins to (cut, groups) =
    let rest = drop s.at text in
    let whole : rest ≡ found ++ to.rest = cut ∙ ap (λ w. w ++ to.rest) (sym is) in
    other_text found (take (length found) (take (length text - s.at) rest)) begins
    (sym (ap (take (length found)) (take_rest text s.at ∙ whole) ∙ take_at found to.rest (length found) refl))
