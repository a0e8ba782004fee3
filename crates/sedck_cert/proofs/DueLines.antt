-- The lines of the nodes and of the names, one more at a time.
use Rattle.sedck_cert.proofs.Common.{◌≡◌, ℕ, suc, ◌+◌, List, [], ◌∷◌, ◌++◌, length, Option, sym, ◌∙◌, ap, subst, subst₂, arith, ◌≤◌, decimal, Vec, AreWithin, IsCut, node_text, node_texts, Version, Due, nodes_due, IsWrong, Name, list_word, ComesAfter, after_list, names_due, Leads, list_texts, Lines, Global, length-map, IsName, names_of, map_push}
use Rattle.sedck_cert.specs.Faults.{Node}
use Rattle.sedck_cert.proofs.LineLemmas.{leads_on, wrong_cuts, wrong_line}
use Rattle.sedck_cert.specs.declared.reading.names.Files.{Files}

-- ---- Nodes

pub node_texts-append : (v : Version) (node : ℕ) (xs ys : List (Option (ℕ × ℕ)))
    → node_texts v node (xs ++ ys) ≡ node_texts v node xs ++ node_texts v (node + length xs) ys
node_texts-append v node [] ys = ap (λ n. node_texts v n ys) (omega arith)
node_texts-append v node (x ∷ xs) ys = ap (λ t. node_text v node x ∷ t)
    (node_texts-append v (suc node) xs ys ∙ ap (λ n. node_texts v (suc node) xs ++ node_texts v n ys) (omega arith))

pub wrong_node : (v : Version) (node left : ℕ) (rest : List ℕ) →
    ((ranks : Option (ℕ × ℕ)) → AreWithin ranks → (more : List ℕ) → IsCut 10 rest (node_text v node ranks) more → ⊥) → IsWrong v (Node node left) rest
wrong_node v node left rest none = wrong_cuts v (Node node left) rest
    (λ text more next cut due. none due.0 due.1 more (subst (λ t. IsCut 10 rest t more) due.2 cut))

-- one node more
pub leads_node : (v : Version) (first : Due) (node left : ℕ) (all : List (Option (ℕ × ℕ))) (ranks : Option (ℕ × ℕ)) {x y z : Lines} → length all ≡ node
    → Leads v first x (node_texts v 0 all) y (Node node left) → Leads v (Node node left) y (node_text v node ranks ∷ []) z (nodes_due (suc node) left)
    → Leads v first x (node_texts v 0 (all ++ ranks ∷ [])) z (nodes_due (node + 1) left)
leads_node v first node left all ranks {x} {y} {z} long h k =
    subst₂ (λ t n. Leads v first x t z (nodes_due n left))
    (sym (node_texts-append v 0 all (ranks ∷ []) ∙ ap (λ n. node_texts v 0 all ++ node_text v n ranks ∷ []) (omega arith))) (omega arith)
    (leads_on h k)

-- ---- Names

pub wrong_name : (v : Version) (files : Files) (left : ℕ) (before : List (List ℕ)) (size : ℕ) (rest text more : List ℕ) → IsCut 10 rest text more
    → ¬ (IsName text × ComesAfter before text × (size + length text + 1 ≤ 1048576)) → IsWrong v (Name files left before size) rest
wrong_name v files left before size rest text more cut none =
    wrong_line v (Name files left before size) rest text more cut (λ next due. none (due.0, due.1, due.2))

-- one name more
pub leads_name : (v : Version) (first : Due) (files : Files) (left : ℕ) (before : List (List ℕ)) (size : ℕ) (head : List ℕ) (names : List (Vec ℕ Global))
    (name : Vec ℕ Global) (text : List ℕ) {x y z : Lines} → name.items ≡ text → Leads v first x (head ∷ names_of names) y (Name files left before size)
    → Leads v (Name files left before size) y (text ∷ []) z (names_due files left (text ∷ []) (size + length text + 1))
    → Leads v first x (head ∷ names_of (names ++ name ∷ [])) z (names_due files left (text ∷ []) (size + (length text + 1)))
leads_name v first files left before size head names name text {x} {y} {z} same h k =
    let texts : names_of names ++ text ∷ [] ≡ names_of (names ++ name ∷ []) =
    sym (map_push (λ n. n.items) names name ∙ ap (λ t. names_of names ++ t ∷ []) same) in
    subst₂ (λ t s. Leads v first x (head ∷ t) z (names_due files left (text ∷ []) s)) texts (omega arith) (leads_on h k)

-- no name is read so far
pub leads_no_names : (v : Version) (first : Due) (files : Files) (n count left size : ℕ) (names : List (Vec ℕ Global)) {x y : Lines} → count ≡ n → names ≡ []
    → length names + left ≡ count → Leads v first x ((list_word files ++ decimal n) ∷ []) y (names_due files n [] size)
    → Leads v first x ((list_word files ++ decimal count) ∷ names_of names) y (names_due files left [] size)
leads_no_names v first files n count left size names {x} {y} same none all h =
    rw (none, same) (subst (λ k. Leads v first x ((list_word files ++ decimal n) ∷ []) y (names_due files k [] size)) (omega (arith, ap length none)) h)

-- all names are read
pub leads_all_names : (v : Version) (first : Due) (files : Files) (count size : ℕ) (names : List (Vec ℕ Global)) {x y : Lines}
    → length names ≡ count → Leads v first x ((list_word files ++ decimal count) ∷ names_of names) y (after_list files size)
    → Leads v first x (list_texts files (names_of names)) y (after_list files size)
leads_all_names v first files count size names {x} {y} long h =
    subst (λ n. Leads v first x ((list_word files ++ decimal n) ∷ names_of names) y (after_list files size)) (sym (length-map names _ ∙ long)) h
