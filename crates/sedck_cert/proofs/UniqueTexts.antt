-- A text is one certificate's at most, and none's where a line of it isn't what is due.
use Rattle.sedck_cert.proofs.Common.{◌≡◌, ℕ, suc, ◌<◌, ◌≤◌, ◌^◌, List, [], ◌∷◌, ◌++◌, length, take, drop, decimal, codes, Option, Some, None, append_assoc, refl, sym, ◌∙◌, ap, subst, subst₂, arith, AllByRecursion, recursion_from_All, decimal_injective, append_cancel_left, Certificate, IsCertificate, nodes_in, AreWithin, line, IsOneLine, IsTextOf, words_in, node_text, node_texts, joined_lines, ranks_text, Version, Due, Header, Count, Names, Name, Last, Nothing, IsDue, AreDue, IsRefused, IsFaultOf, list_word, names_due, nodes_due, list_texts, certificate_lines, Reads, Writes, CertFault, take-append_seam, drop-append_seam}
use Rattle.sedck_cert.specs.Faults.{Node}
use Rattle.sedck_cert.specs.declared.reading.names.Files.{Files}
use Rattle.sedck_cert.proofs.CutLemmas.{parts_one, has_byte, dash_lacks, decimal-lacks}
use Rattle.sedck_cert.proofs.LineLemmas.{line-behind}
use Rattle.sedck_cert.proofs.LinesAreText.{certificate_lines-joined, certificate_is_due}

-- the first lines of one text, and what is after them
pub lines_one : (a b r s : List ℕ) → IsOneLine a → IsOneLine b → line a ++ r ≡ line b ++ s → (a ≡ b) × (r ≡ s)
lines_one a b r s one two e = parts_one 10 a b r s one two (sym (line-behind a r) ∙ e ∙ line-behind b s)

-- one line leads to one thing that is due
count_one : (word : List ℕ) (m n : ℕ) → m ≤ 4095 → n ≤ 4095 → word ++ decimal m ≡ word ++ decimal n → m ≡ n
count_one word m n few less e = decimal_injective m n (omega arith) (omega arith) (append_cancel_left word (decimal m) (decimal n) e)

due_one : (v : Version) (due : Due) (text : List ℕ) (a b : Due) → IsDue v due text a → IsDue v due text b → a ≡ b
due_one v Header text a b h k = h.1 ∙ sym k.1
due_one v Count text a b h k = h.3 ∙ ap (λ n. nodes_due 0 (nodes_in v n)) (count_one (codes "commands ") h.0 k.0 h.1 k.1 (sym h.2 ∙ k.2)) ∙ sym k.3
due_one v (Node node left) text a b h k = h.3 ∙ sym k.3
due_one v (Names files size) text a b h k = h.3 ∙ ap (λ n. names_due files n [] size) (count_one (list_word files) h.0 k.0 h.1 k.1 (sym h.2 ∙ k.2)) ∙ sym k.3
due_one v (Name files left before size) text a b h k = h.3 ∙ sym k.3
due_one v Last text a b h k = h.1 ∙ sym k.1
due_one v Nothing text a b h k = absurd h

-- a line that is due refutes what is wrong there
not_refused : (v : Version) (due mid : Due) (text : List ℕ) (more : List ℕ) → IsOneLine text → IsDue v due text mid → IsRefused v due (line text ++ more) → ⊥
not_refused v Nothing mid text more one h wrong = h
not_refused v due mid text more one h wrong = wrong text more mid refl one h

-- a text of lines that are due to the end stops nowhere
pub none_refused : (v : Version) (before lines : List (List ℕ)) (rest : List ℕ) (due wrong : Due) → joined_lines before ++ rest ≡ joined_lines lines
    → AreDue v due before wrong → AreDue v due lines Nothing → IsRefused v wrong rest → ⊥
none_refused v [] [] rest due wrong e h k refused =
    let end : wrong ≡ Nothing = h ∙ sym k in
    let some : 0 < length rest = subst (λ d. IsRefused v d rest) end refused in
    omega (arith, ap length e)
none_refused v [] (text ∷ lines) rest due wrong e h k refused = not_refused v due k.1 text (joined_lines lines) k.0 k.2 (subst₂ (λ d t. IsRefused v d t) h e refused)
none_refused v (text ∷ before) [] rest due wrong e h k refused =
    let none : IsDue v Nothing text h.1 = subst (λ d. IsDue v d text h.1) (sym k) h.2 in none
none_refused v (a ∷ before) (b ∷ lines) rest due wrong e h k refused =
    let both = lines_one a b (joined_lines before ++ rest) (joined_lines lines) h.0 k.0 (sym (append_assoc (line a) (joined_lines before) rest) ∙ e) in
    let same : h.1 ≡ k.1 = due_one v due b h.1 k.1 (subst (λ t. IsDue v due t h.1) both.0 h.2) k.2 in
    none_refused v before lines rest k.1 wrong both.1 (subst (λ d. AreDue v d before wrong) same h.3) k.3 refused

pub fault_of_none : (v : Version) (text : List ℕ) (fault : CertFault) → IsFaultOf v text fault → (c : Certificate) → ¬ IsTextOf v text c
fault_of_none v text fault f c h =
    none_refused v f.before (certificate_lines v c) f.rest Header f.due (sym f.is_text ∙ h.is_text ∙ sym (certificate_lines-joined v c)) f.are_due
    (certificate_is_due v c h.within) f.is_refused

-- ---- One certificate

pub no_line : (text rest : List ℕ) → [] ≡ line text ++ rest → ⊥
no_line text rest e = let has = has_byte 10 [] text rest (e ∙ line-behind text rest) in let below : has.0 < 0 = has.1 in omega arith

joined_one : (v : Version) (xs ys : List (List ℕ)) (a b : Due) → joined_lines xs ≡ joined_lines ys → AreDue v a xs b → AreDue v a ys b → xs ≡ ys
joined_one v [] [] a b e h k = refl
joined_one v [] (y ∷ ys) a b e h k = absurd (no_line y (joined_lines ys) e)
joined_one v (x ∷ xs) [] a b e h k = absurd (no_line x (joined_lines xs) (sym e))
joined_one v (x ∷ xs) (y ∷ ys) a b e h k =
    let both = lines_one x y (joined_lines xs) (joined_lines ys) h.0 k.0 e in
    let same : h.1 ≡ k.1 = due_one v a y h.1 k.1 (subst (λ t. IsDue v a t h.1) both.0 h.2) k.2 in
    cc (both.0, joined_one v xs ys k.1 b both.1 (subst (λ d. AreDue v d xs b) same h.3) k.3)

pub append_split : {A : Type 0} (xs ys as' bs : List A) → length xs ≡ length ys → xs ++ as' ≡ ys ++ bs → (xs ≡ ys) × (as' ≡ bs)
append_split xs ys as' bs l e = (
  sym (take-append_seam xs as') ∙ ap (take (length xs)) e ∙ ap (λ n. take n (ys ++ bs)) l ∙ take-append_seam ys bs,
  sym (drop-append_seam xs as') ∙ ap (drop (length xs)) e ∙ ap (λ n. drop n (ys ++ bs)) l ∙ drop-append_seam ys bs,
)

ranks_one : (x y : Option (ℕ × ℕ)) → AreWithin x → AreWithin y → ranks_text x ≡ ranks_text y → x ≡ y
ranks_one None None h k e = refl
ranks_one None (Some s) h k e =
    absurd (dash_lacks 32 (omega arith) (has_byte 32 (codes "-") (decimal s.0) (decimal s.1) (e ∙ append_assoc (decimal s.0) (codes " ") (decimal s.1))))
ranks_one (Some r) None h k e =
    absurd (dash_lacks 32 (omega arith) (has_byte 32 (codes "-") (decimal r.0) (decimal r.1) (sym e ∙ append_assoc (decimal r.0) (codes " ") (decimal r.1))))
ranks_one (Some r) (Some s) h k e =
    let small : (r.0 < 2 ^ 64) × (r.1 < 2 ^ 64) = (omega (arith, h.0), omega (arith, h.1)) in
    let less : (s.0 < 2 ^ 64) × (s.1 < 2 ^ 64) = (omega (arith, k.0), omega (arith, k.1)) in
    let both = parts_one 32 (decimal r.0) (decimal s.0) (decimal r.1) (decimal s.1) (decimal-lacks r.0 32 small.0 (omega arith))
    (decimal-lacks s.0 32 less.0 (omega arith))
    (sym (append_assoc (decimal r.0) (codes " ") (decimal r.1)) ∙ e ∙ append_assoc (decimal s.0) (codes " ") (decimal s.1)) in
    let first : r.0 ≡ s.0 = decimal_injective r.0 s.0 small.0 less.0 both.0 in
    let second : r.1 ≡ s.1 = decimal_injective r.1 s.1 small.1 less.1 both.1 in
    (λ i. Some (first i, second i))

nodes_one : (v : Version) (node : ℕ) (xs ys : List (Option (ℕ × ℕ))) → AllByRecursion AreWithin xs → AllByRecursion AreWithin ys
    → node_texts v node xs ≡ node_texts v node ys → xs ≡ ys
nodes_one v node [] [] h k e = refl
nodes_one v node [] (y ∷ ys) h k e = absurd (cc e)
nodes_one v node (x ∷ xs) [] h k e = absurd (cc e)
nodes_one v node (x ∷ xs) (y ∷ ys) h k e =
    let heads : node_text v node x ≡ node_text v node y = cc e in
    let tails : node_texts v (suc node) xs ≡ node_texts v (suc node) ys = cc e in
    let same = ranks_one x y h.0 k.0 (append_cancel_left (words_in v node ++ codes " ") (ranks_text x) (ranks_text y) heads) in
    cc (same, nodes_one v (suc node) xs ys h.1 k.1 tails)

length-node_texts : (v : Version) (node : ℕ) (xs : List (Option (ℕ × ℕ))) → length (node_texts v node xs) ≡ length xs
length-node_texts v node [] = refl
length-node_texts v node (x ∷ xs) = ap suc (length-node_texts v (suc node) xs)

-- two lists, and what is after them
lists_one : (files : Files) (xs ys as' bs : List (List ℕ)) → length xs ≤ 4095 → length ys ≤ 4095
    → list_texts files xs ++ as' ≡ list_texts files ys ++ bs → (xs ≡ ys) × (as' ≡ bs)
lists_one files xs ys as' bs few less e =
    let heads : list_word files ++ decimal (length xs) ≡ list_word files ++ decimal (length ys) = cc e in
    let tails : xs ++ as' ≡ ys ++ bs = cc e in
    append_split xs ys as' bs (count_one (list_word files) (length xs) (length ys) few less heads) tails

certificate_one : (v : Version) (c d : Certificate) → IsCertificate v c → IsCertificate v d → certificate_lines v c ≡ certificate_lines v d → c ≡ d
certificate_one v c d h k e =
    let end = codes "end" ∷ [] in
    let counts : codes "commands " ++ decimal c.commands ≡ codes "commands " ++ decimal d.commands = cc e in
    let commands = count_one (codes "commands ") c.commands d.commands h.commands k.commands counts in
    let rest : node_texts v 0 c.ranks ++ (list_texts Reads c.reads ++ (list_texts Writes c.writes ++ end)) ≡ node_texts v 0 d.ranks ++
    (list_texts Reads d.reads ++ (list_texts Writes d.writes ++ end)) = cc e in
    let long : length (node_texts v 0 c.ranks) ≡ length (node_texts v 0 d.ranks) =
    length-node_texts v 0 c.ranks ∙ h.nodes ∙ ap (nodes_in v) commands ∙ sym (length-node_texts v 0 d.ranks ∙ k.nodes) in
    let nodes = append_split (node_texts v 0 c.ranks) (node_texts v 0 d.ranks) _ _ long rest in
    let ranks = nodes_one v 0 c.ranks d.ranks (recursion_from_All AreWithin c.ranks h.ranks) (recursion_from_All AreWithin d.ranks k.ranks) nodes.0 in
    let reads = lists_one Reads c.reads d.reads (list_texts Writes c.writes ++ end) (list_texts Writes d.writes ++ end) h.reads.count k.reads.count nodes.1 in
    let writes = lists_one Writes c.writes d.writes end end h.writes.count k.writes.count reads.1 in
    (λ i. record { commands = commands i; ranks = ranks i; reads = reads.0 i; writes = writes.0 i })

-- a text is one certificate's
pub text_of_one : (v : Version) (text : List ℕ) (c d : Certificate) → IsTextOf v text c → IsTextOf v text d → d ≡ c
text_of_one v text c d h k =
    certificate_one v d c k.within h.within (joined_one v (certificate_lines v d) (certificate_lines v c) Header Nothing
    (certificate_lines-joined v d ∙ sym k.is_text ∙ h.is_text ∙ sym (certificate_lines-joined v c)) (certificate_is_due v d k.within)
    (certificate_is_due v c h.within))
