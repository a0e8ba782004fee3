-- How far an expression has been read, when one more piece is read.
use Rattle.std.proofs.Common.{◌≡◌, ◌≢◌, ◌≤◌, ℕ, List, [], ◌∷◌, ◌++◌, length, get_or, refl, ap, sym, ◌∙◌, subst, append_assoc, append-nil, arith}
use Rattle.std.specs.List.{between}
use Rattle.std.proofs.lemmas.Slice.{between_to_end}
use Rattle.sedck_text.specs.Bytes.{newline}
use Rattle.sedck_commands.specs.Parts.{DelimitedExpression}
use Rattle.sedck_commands.specs.Parts as p
use Rattle.sedck_plain.specs.WrittenLists.{after, lists_from, expression_lists}
use Rattle.sedck_plain.specs.Private.Cutting.{kept, IsReadUpTo, HasAdded}
use Rattle.sedck_plain.specs.declared.written.Position.{Position}
use Rattle.sedck_plain.specs.declared.written.Position.TheVariants.{Outside}

-- a text as its first two bytes and what follows them
pub second_rest : (xs : List ℕ) → 2 ≤ length xs → xs ≡ get_or xs 0 0 ∷ get_or xs 1 0 ∷ between 2 (length xs) xs
second_rest [] long = absurd (omega (arith, long))
second_rest (a ∷ []) long = absurd (omega (arith, long))
second_rest (a ∷ b ∷ xs) long = ap (λ t. a ∷ b ∷ t) (sym (between_to_end (a ∷ b ∷ xs) 2 (length (a ∷ b ∷ xs)) (omega arith)))

pub read_more : (d : ℕ) (at end stop : Position) (text before lists rest begin front behind items : List ℕ) → items ≡ lists ++ front → stop ≡ end → rest ≡ begin
    → HasAdded d text before lists at rest → IsReadUpTo d at begin front end behind → HasAdded d text before items stop behind
read_more d at end stop text before lists rest begin front behind items e f g h k all left x =
    let one = h all left x in
    let two = k one.0 left (subst (λ t. DelimitedExpression d t one.0 left) g one.2) in
    let same = one.1 ∙ (ap (λ t. lists ++ t) two.1 ∙ (sym (append_assoc lists front (lists_from end two.0)) ∙ ap (λ t. t ++ lists_from end two.0) (sym e))) in
    (two.0, same ∙ ap (λ t. items ++ lists_from t two.0) (sym f), two.2)

ended : (d b : ℕ) (behind all left : List ℕ) → b ≡ d → d ≢ 92 → DelimitedExpression d (b ∷ behind) all left → (all ≡ []) × (left ≡ behind)
ended d b behind all left e n (p.ends h) = (refl, refl)
ended d b behind all left e n (p.byte f g h x) = absurd (f e)
ended d b behind all left e n (p.escaped f g h x) = absurd (n (sym e ∙ f))
ended d b behind all left e n (p.pair f g h x) = absurd (n (sym e ∙ f))

pub read_end : (d b : ℕ) (at : Position) (text before lists rest behind items all left : List ℕ) → rest ≡ b ∷ behind → b ≡ d → d ≢ 92
    → items ≡ lists ++ newline ∷ [] → HasAdded d text before lists at rest → DelimitedExpression d text all left
    → (items ≡ before ++ expression_lists all) × (left ≡ behind)
read_end d b at text before lists rest behind items all left cut e n pushed h x =
    let one = h all left x in
    let end = ended d b behind one.0 left e n (subst (λ t. DelimitedExpression d t one.0 left) cut one.2) in
    let whole : before ++ lists_from Outside all ≡ lists = one.1 ∙ (ap (λ t. lists ++ lists_from at t) end.0 ∙ append-nil lists) in
    (pushed ∙ (ap (λ t. t ++ newline ∷ []) (sym whole) ∙ append_assoc before (lists_from Outside all) (newline ∷ [])), end.1)

pub read_byte : (d b : ℕ) (at : Position) (text : List ℕ) → b ≢ d → b ≢ 92 → IsReadUpTo d at (b ∷ text) (kept at b) (after at b) text
read_byte d b at text n m all left (p.ends h) = absurd (n h)
read_byte d b at text n m all left (p.byte f g h x) = (_, refl, x)
read_byte d b at text n m all left (p.escaped f g h x) = absurd (m f)
read_byte d b at text n m all left (p.pair f g h x) = absurd (m f)

pub read_escaped : (d a b : ℕ) (at : Position) (text : List ℕ) → a ≢ d → a ≡ 92 → b ≡ d → IsReadUpTo d at (a ∷ b ∷ text) (kept at b) (after at b) text
read_escaped d a b at text n i j all left (p.ends h) = absurd (n h)
read_escaped d a b at text n i j all left (p.byte f g h x) = absurd (g i)
read_escaped d a b at text n i j all left (p.escaped f g h x) = (_, refl, x)
read_escaped d a b at text n i j all left (p.pair f g h x) = absurd (g j)

pub read_pair : (d a b : ℕ) (at : Position) (text : List ℕ) → a ≢ d → a ≡ 92 → b ≢ d
    → IsReadUpTo d at (a ∷ b ∷ text) (kept at a ++ kept (after at a) b) (after (after at a) b) text
read_pair d a b at text n i j all left (p.ends h) = absurd (n h)
read_pair d a b at text n i j all left (p.byte f g h x) = absurd (g i)
read_pair d a b at text n i j all left (p.escaped f g h x) = absurd (j g)
read_pair d a b at text n i j all left (p.pair {expression = e} f g h x) =
    (e, sym (append_assoc (kept at a) (kept (after at a) b) (lists_from (after (after at a) b) e)), x)

pub read_two : (d a b : ℕ) (at quoted stop : Position) (text before lists middle rest behind items : List ℕ) → rest ≡ a ∷ b ∷ behind → a ≢ d → a ≡ 92 → b ≢ d
    → middle ≡ lists ++ kept at a → quoted ≡ after at a → items ≡ middle ++ kept quoted b → stop ≡ after quoted b
    → HasAdded d text before lists at rest → HasAdded d text before items stop behind
read_two d a b at quoted stop text before lists middle rest behind items cut n i m first then second end h =
    let both = second ∙ (ap (λ t. middle ++ kept t b) then ∙ (ap (λ t. t ++ kept (after at a) b) first ∙ append_assoc lists (kept at a) (kept (after at a) b))) in
    read_more d at (after (after at a) b) stop text before lists rest (a ∷ b ∷ behind) (kept at a ++ kept (after at a) b) behind items both
    (end ∙ ap (λ t. after t b) then) cut h (read_pair d a b at behind n i m)
