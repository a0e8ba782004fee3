-- The pieces of a certificate's text, in the order in which they are written.
use Rattle.sedck_cert.proofs.Common.{◌≡◌, ℕ, suc, ◌+◌, ◌<◌, List, [], ◌∷◌, ◌++◌, length, get_or, take, drop, decimal, codes, Option, Some, append_assoc, append-nil, refl, sym, ◌∙◌, ap, arith, ◌/◌, drop-cons, take_more, length-map, Certificate, line, header, ranks_text, node_text, node_texts, joined_lines, files_text, Version, Two, take-append-drop, map-append, length-take-le, certificate_text}
use Rattle.std.proofs.Common.{map}
use Rattle.std.specs.Prelude.{◌%◌}
use Rattle.sedck_cert.specs.Text.{text_in}
use Rattle.sedck_cert.proofs.NameLimits.{left_cons}
use Rattle.sedck_cert.proofs.DueLines.{node_texts-append}
use Rattle.sedck_cert.proofs.LineLemmas.{joined_lines-append}

five : (a b c d e : List ℕ) → a ++ b ++ c ++ d ++ e ≡ a ++ (b ++ (c ++ (d ++ e)))
five a b c d e = simp append_assoc

seven : (a f l r e : List ℕ) → a ++ 32 ∷ (f ++ 32 ∷ (l ++ 32 ∷ (r ++ e))) ≡ a ++ (32 ∷ []) ++ f ++ (32 ∷ []) ++ l ++ (32 ∷ []) ++ r ++ e
seven a f l r e = simp append_assoc

pub node_pieces : (index : ℕ) (ranks : Option (ℕ × ℕ))
    → decimal (index / 4) ++ 32 ∷ (decimal (index / 2 % 2) ++ 32 ∷ (decimal (index % 2) ++ 32 ∷ line (ranks_text ranks))) ≡ line (node_text Two index ranks)
node_pieces index ranks = seven (decimal (index / 4)) (decimal (index / 2 % 2)) (decimal (index % 2)) (ranks_text ranks) (10 ∷ [])

pub node_lines-more : (ranks : List (Option (ℕ × ℕ))) (i : ℕ) (d : Option (ℕ × ℕ)) → i < length ranks
    → joined_lines (node_texts Two 0 (take (i + 1) ranks)) ≡ joined_lines (node_texts Two 0 (take i ranks)) ++ line (node_text Two i (get_or ranks i d))
node_lines-more ranks i d within =
    let long : 0 + length (take i ranks) ≡ i = omega (arith, length-take-le i ranks (omega arith)) in
    ap (λ t. joined_lines (node_texts Two 0 t)) (take_more ranks i d within) ∙ simp (node_texts-append, joined_lines-append, append-nil, long)

pub node_lines-at : (ranks : List (Option (ℕ × ℕ))) (i : ℕ) (d : Option (ℕ × ℕ)) → i < length ranks → joined_lines (node_texts Two 0 ranks)
    ≡ joined_lines (node_texts Two 0 (take i ranks)) ++ (line (node_text Two i (get_or ranks i d)) ++ joined_lines (node_texts Two (suc i) (drop (suc i) ranks)))
node_lines-at ranks i d within =
    let long : 0 + length (take i ranks) ≡ i = omega (arith, length-take-le i ranks (omega arith)) in
    ap (λ t. joined_lines (node_texts Two 0 t)) (sym (take-append-drop i ranks))
    ∙ simp (node_texts-append, joined_lines-append, long, drop-cons ranks i d within)

pub joined_lines-at : {A : Type 0} (items : A → List ℕ) (names : List A) (i : ℕ) (name : A) → i < length names → name ≡ get_or names i name
    → joined_lines (map items names) ≡ joined_lines (map items (take i names)) ++ (line (items name) ++ joined_lines (map items (drop (i + 1) names)))
joined_lines-at items names i name within is = ap (λ t. joined_lines (map items t)) (sym (take-append-drop i names))
    ∙ simp (map-append, joined_lines-append, left_cons items names i name within is)

pub joined_lines-more : {A : Type 0} (items : A → List ℕ) (names : List A) (i : ℕ) (name : A) → i < length names → name ≡ get_or names i name
    → joined_lines (map items (take (i + 1) names)) ≡ joined_lines (map items (take i names)) ++ line (items name)
joined_lines-more items names i name within is =
    ap (λ t. joined_lines (map items t)) (take_more names i name within ∙ ap (λ n. take i names ++ n ∷ []) (sym is))
    ∙ simp (map-append, joined_lines-append, append-nil)

pub list_pieces : {A : Type 0} (items : A → List ℕ) (word : List ℕ) (names : List A)
    → line (word ++ decimal (length (map items names))) ++ joined_lines (map items names)
    ≡ word ++ (decimal (length names) ++ (codes "\n" ++ joined_lines (map items names)))
list_pieces items word names =
    append_assoc (word ++ decimal (length (map items names))) (10 ∷ []) (joined_lines (map items names))
    ∙ append_assoc word (decimal (length (map items names))) (10 ∷ joined_lines (map items names))
    ∙ ap (λ n. word ++ (decimal n ++ (10 ∷ joined_lines (map items names)))) (length-map names items)

pub head_pieces : (n : ℕ) → line (header Two) ++ line (codes "commands " ++ decimal n) ≡ codes "sedck 2\ncommands " ++ (decimal n ++ 10 ∷ [])
head_pieces n = refl

pub files_pieces : (reads writes : List (List ℕ)) → files_text reads writes ≡ (line (codes "read " ++ decimal (length reads)) ++ joined_lines reads) ++
    (line (codes "write " ++ decimal (length writes)) ++ joined_lines writes)
files_pieces reads writes = append_assoc (line (codes "read " ++ decimal (length reads)) ++ joined_lines reads)
    (line (codes "write " ++ decimal (length writes))) (joined_lines writes)

abbrev pub head_text : ℕ → List ℕ
head_text n = line (header Two) ++ line (codes "commands " ++ decimal n)

four : (h n f e : List ℕ) → h ++ n ++ f ++ e ≡ h ++ (n ++ (f ++ e))
four h n f e = simp append_assoc

-- the first line of a text, and the others
pub header_first : (v : Version) (c : Certificate) → (rest : List ℕ) × (text_in v c ≡ line (header v) ++ rest)
unfolding text_in
header_first v c =
    let count = line (codes "commands " ++ decimal c.commands) in
    let nodes = joined_lines (node_texts v 0 c.ranks) in
    let files = files_text c.reads c.writes in
    let end = line (codes "end") in
    (count ++ (nodes ++ (files ++ end)), five (line (header v)) count nodes files end)

-- the pieces as they are at hand
pub pieces_at : (c : Certificate) (n : ℕ) (ranks : List (Option (ℕ × ℕ))) (reads writes : List (List ℕ)) → n ≡ c.commands → ranks ≡ c.ranks
    → reads ≡ c.reads → writes ≡ c.writes → certificate_text c ≡ head_text n ++ (joined_lines (node_texts Two 0 ranks) ++ (files_text reads writes ++ line (codes "end")))
unfolding text_in
pieces_at c n ranks reads writes a b d e =
    four (head_text c.commands) (joined_lines (node_texts Two 0 c.ranks)) (files_text c.reads c.writes) (line (codes "end"))
    ∙ (λ i. head_text (sym a i) ++ (joined_lines (node_texts Two 0 (sym b i)) ++ (files_text (sym d i) (sym e i) ++ line (codes "end"))))
