-- The position that follows a text with one byte more.
use Rattle.std.proofs.Common.{◌≡◌, ◌==◌, ◌+◌, false, ℕ, List, [], ◌∷◌, ◌++◌, not, length, take, arith, sym, ap, ◌∙◌}
use Rattle.std.specs.Prelude.{cond, reverse, suc}
use Rattle.std.specs.List.{take_while, filter, prefix_len}
use Rattle.std.proofs.lemmas.List.{length-append, reverse-append}
use Rattle.std.proofs.lemmas.List.Elements.{filter-append}
use Rattle.sedck_text.specs.Bytes.{newline}
use Rattle.sedck_report.specs.Positions.{line_after, column_after, position_after}
use Rattle.sedck_report.specs.declared.places.Position.{Position}

abbrev pub made : ℕ → ℕ → ℕ → Position
made offset line column = record { offset = offset; line = line; column = column }

fields : {a b c x y z : ℕ} → a ≡ x → b ≡ y → c ≡ z → made a b c ≡ made x y z
fields {a} {b} {c} {x} {y} {z} p q r = ap (λ t. made t b c) p ∙ ap (λ t. made x t c) q ∙ ap (λ t. made x y t) r

line-more : (before : List ℕ) (b : ℕ) → line_after (before ++ (b ∷ [])) ≡ suc (length (filter (λ c. c == newline) before) + length (filter (λ c. c == newline) (b ∷ [])))
line-more before b =
    ap (λ t. suc (length t)) (filter-append (λ c. c == newline) before (b ∷ []))
    ∙ ap suc (length-append (filter (λ c. c == newline) before) (filter (λ c. c == newline) (b ∷ [])))

column-more : (before : List ℕ) (b : ℕ) → column_after (before ++ (b ∷ [])) ≡ suc (length (take_while (λ c. not (c == newline)) (b ∷ reverse before)))
column-more before b = ap (λ t. suc (length (take_while (λ c. not (c == newline)) t))) (reverse-append before (b ∷ []))

one_more : (n : ℕ) → 1 + n ≡ suc n
one_more n = omega arith

line-newline : (before : List ℕ) → line_after before + 1 ≡ line_after (before ++ (newline ∷ []))
line-newline before =
    let more : line_after (before ++ (newline ∷ [])) ≡ suc (length (filter (λ c. c == newline) before) + 1) = line-more before newline in
    omega (arith, more)

line-other : (before : List ℕ) (b : ℕ) → (b == newline) ≡ false → line_after before ≡ line_after (before ++ (b ∷ []))
line-other before b other =
    let more : line_after (before ++ (b ∷ [])) ≡ suc (length (filter (λ c. c == newline) before) + 0) =
    line-more before b ∙ ap (λ t. suc (length (filter (λ c. c == newline) before) + length (cond t (b ∷ []) []))) other in
    omega (arith, more)

column-other : (before : List ℕ) (b : ℕ) → (b == newline) ≡ false → column_after before + 1 ≡ column_after (before ++ (b ∷ []))
column-other before b other =
    let count = prefix_len (λ c. not (c == newline)) (reverse before) in
    let more : column_after (before ++ (b ∷ [])) ≡ suc (suc (length (take count (reverse before)))) =
    column-more before b
    ∙ ap (λ t. suc (length (take (cond (not t) (1 + count) 0) (b ∷ reverse before)))) other
    ∙ ap (λ t. suc (length (take t (b ∷ reverse before)))) (one_more count) in
    omega (arith, more)

-- a newline begins the next line
pub after_newline : (before : List ℕ) → made (length before + 1) (line_after before + 1) 1 ≡ position_after (before ++ (newline ∷ []))
after_newline before = fields (sym (length-append before (newline ∷ []))) (line-newline before) (sym (column-more before newline))

-- any other byte takes a column
pub after_other : (before : List ℕ) (b : ℕ) → (b == newline) ≡ false → made (length before + 1) (line_after before) (column_after before + 1) ≡ position_after (before ++ (b ∷ []))
after_other before b other = fields (sym (length-append before (b ∷ []))) (line-other before b other) (column-other before b other)
