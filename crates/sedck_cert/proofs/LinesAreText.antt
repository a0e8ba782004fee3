-- The lines of a certificate are its text, and are what is due.
use Rattle.sedck_cert.proofs.Common.{◌≡◌, ℕ, zero, suc, ◌+◌, ◌<◌, ◌≤◌, ◌^◌, List, [], ◌∷◌, ◌++◌, length, decimal, codes, Option, append_assoc, append-nil, refl, sym, ◌∙◌, ap, subst, inl, inr, arith, true, ◌%◌, Some, None, AllByRecursion, recursion_from_All, Contains-append_cases, decimal_injective, append_cancel_left, AreNames, names_size, Certificate, IsCertificate, nodes_in, AreWithin, line, header, node_texts, joined_lines, IsOneLine, words_in, node_text, ranks_text, Due, Header, Count, Names, Last, Nothing, AreDue, list_word, after_list, names_due, nodes_due, list_texts, certificate_lines, AreNext, Version, One, Two, Reads, Writes, nat_lt, list_all, and_parts, ltb-true}
use Rattle.std.proofs.Common.{◌/◌}
use Rattle.sedck_cert.specs.Text.{text_in}
use Rattle.sedck_cert.specs.declared.reading.names.Files.{Files}
use Rattle.sedck_cert.proofs.CutLemmas.{decimal-lacks}
use Rattle.sedck_cert.proofs.NameLimits.{size-cons, names_next, next_names}
use Rattle.sedck_cert.proofs.LineLemmas.{joined_lines-append, are_due-append}

-- ---- The text

all_joined : (h c rx wx e : List ℕ) (n r w : List (List ℕ)) → joined_lines (h ∷ c ∷ (n ++ ((rx ∷ r) ++ ((wx ∷ w) ++ e ∷ []))))
    ≡ line h ++ line c ++ joined_lines n ++ (line rx ++ joined_lines r ++ line wx ++ joined_lines w) ++ line e
all_joined h c rx wx e n r w = simp (joined_lines-append, append_assoc, append-nil)

pub certificate_lines-joined : (v : Version) (c : Certificate) → joined_lines (certificate_lines v c) ≡ text_in v c
unfolding text_in
certificate_lines-joined v c = all_joined (header v) (codes "commands " ++ decimal c.commands) (codes "read " ++ decimal (length c.reads))
    (codes "write " ++ decimal (length c.writes)) (codes "end") (node_texts v 0 c.ranks) c.reads c.writes

-- ---- What is due

pub decimal-one_line : (word : List ℕ) (n : ℕ) → n < 2 ^ 64 → IsOneLine word → IsOneLine (word ++ decimal n)
decimal-one_line word n small one h = elim (Contains-append_cases word (decimal n) 10 h) [
  | inl front ↦ one front
  | inr back ↦ decimal-lacks n 10 small (omega arith) back
]

word-one_line : (b : ℕ) (word : List ℕ) → 10 < b → IsOneLine word → IsOneLine (b ∷ word)
word-one_line b word above one (zero, within, is) = let e : b ≡ 10 = is in omega arith
word-one_line b word above one (suc k, within, is) = one (k, omega arith, is)

none-one_line : IsOneLine []
none-one_line (k, within, is) = omega arith

pub above-one_line : (text : List ℕ) → list_all (λ b. nat_lt 10 b) text ≡ true → IsOneLine text
above-one_line [] h = none-one_line
above-one_line (b ∷ text) h =
    let parts = and_parts (nat_lt 10 b) (list_all (λ b. nat_lt 10 b) text) h in
    word-one_line b text (ltb-true 10 b parts.0) (above-one_line text parts.1)

append-one_line : (a b : List ℕ) → IsOneLine a → IsOneLine b → IsOneLine (a ++ b)
append-one_line a b one two h = elim (Contains-append_cases a b 10 h) [ inl front ↦ one front | inr back ↦ two back ]

-- a number more
decimals-one_line : (text : List ℕ) (n : ℕ) → n < 2 ^ 64 → IsOneLine text → IsOneLine (text ++ codes " " ++ decimal n)
decimals-one_line text n small one = decimal-one_line (text ++ codes " ") n small (append-one_line text (codes " ") one (above-one_line (codes " ") refl))

list_word-one_line : (files : Files) → IsOneLine (list_word files)
list_word-one_line Reads = above-one_line (codes "read ") refl
list_word-one_line Writes = above-one_line (codes "write ") refl

ranks_text-one_line : (ranks : Option (ℕ × ℕ)) → AreWithin ranks → IsOneLine (ranks_text ranks)
ranks_text-one_line None within = above-one_line (codes "-") refl
ranks_text-one_line (Some r) within =
    decimals-one_line (decimal r.0) r.1 (omega (arith, within.1)) (decimal-one_line [] r.0 (omega (arith, within.0)) none-one_line)

words-one_line : (v : Version) (node : ℕ) → node < 2 ^ 16 → IsOneLine (words_in v node)
words-one_line One node small = decimals-one_line (decimal (node / 2)) (node % 2) (omega arith) (decimal-one_line [] (node / 2) (omega arith) none-one_line)
words-one_line Two node small = decimals-one_line (decimal (node / 4) ++ codes " " ++ decimal (node / 2 % 2)) (node % 2) (omega arith)
    (decimals-one_line (decimal (node / 4)) (node / 2 % 2) (omega arith) (decimal-one_line [] (node / 4) (omega arith) none-one_line))

pub node_text-one_line : (v : Version) (node : ℕ) (ranks : Option (ℕ × ℕ)) → node < 2 ^ 16 → AreWithin ranks → IsOneLine (node_text v node ranks)
node_text-one_line v node ranks small within =
    append-one_line (words_in v node ++ codes " ") (ranks_text ranks)
    (append-one_line (words_in v node) (codes " ") (words-one_line v node small) (above-one_line (codes " ") refl)) (ranks_text-one_line ranks within)

-- the lines of the nodes
pub nodes_are_due : (v : Version) (node : ℕ) (all : List (Option (ℕ × ℕ))) → node + length all < 2 ^ 16 → AllByRecursion AreWithin all
    → AreDue v (nodes_due node (length all)) (node_texts v node all) (Names Reads 0)
nodes_are_due v node [] small within = refl
nodes_are_due v node (ranks ∷ all) small within = (
  node_text-one_line v node ranks (omega arith) within.0,
  nodes_due (suc node) (length all),
  (ranks, within.0, refl, refl),
  nodes_are_due v (suc node) all (omega arith) within.1,
)

-- ---- Names in both directions

due_next : (v : Version) (files : Files) (names before : List (List ℕ)) (size : ℕ) (next : Due) → size ≤ 1048576
    → AreDue v (names_due files (length names) before size) names next → AreNext before names size × (next ≡ after_list files (size + names_size names))
due_next v files [] before size next small h = (small, h ∙ ap (after_list files) (omega arith))
due_next v files (name ∷ names) before size next small (one, mid, due, h) =
    let more = due_next v files names (name ∷ []) (size + length name + 1) next due.2 (subst (λ d. AreDue v d names next) due.3 h) in
    ((due.0, due.1, due.2, more.0), more.1 ∙ ap (after_list files) (size-cons name names size))

next_due : (v : Version) (files : Files) (names before : List (List ℕ)) (size : ℕ) → AreNext before names size
    → AreDue v (names_due files (length names) before size) names (after_list files (size + names_size names))
next_due v files [] before size h = ap (after_list files) (omega arith)
next_due v files (name ∷ names) before size h = (
  h.0.one_line,
  names_due files (length names) (name ∷ []) (size + length name + 1),
  (h.0, h.1, h.2, refl),
  subst (AreDue v (names_due files (length names) (name ∷ []) (size + length name + 1)) names) (ap (after_list files) (size-cons name names size))
      (next_due v files names (name ∷ []) (size + length name + 1) h.3),
)

-- a list that is due
pub list_law : (v : Version) (files : Files) (names : List (List ℕ)) (size : ℕ) (next : Due) → size ≤ 1048576 → length names ≤ 4095
    → AreDue v (Names files size) (list_texts files names) next
    → AreNames names × (next ≡ after_list files (size + names_size names)) × (size + names_size names ≤ 1048576)
list_law v files names size next small few (one, mid, (n, most, is, due), h) =
    let long : n ≡ length names = decimal_injective n (length names) (omega arith) (omega arith)
    (append_cancel_left (list_word files) (decimal n) (decimal (length names)) (sym is)) in
    let listed = due_next v files names [] size next small (subst (λ d. AreDue v d names next) (due ∙ ap (λ k. names_due files k [] size) long) h) in
    let right = next_names names size few listed.0 in
    (right.0, listed.1, right.1)

pub list_is_due : (v : Version) (files : Files) (names : List (List ℕ)) (size : ℕ) → AreNames names → size + names_size names ≤ 1048576
    → AreDue v (Names files size) (list_texts files names) (after_list files (size + names_size names))
list_is_due v files names size are small = (
  decimal-one_line (list_word files) (length names) (omega (arith, are.count)) (list_word-one_line files),
  names_due files (length names) [] size,
  (length names, are.count, refl, refl),
  next_due v files names [] size (names_next names size are small),
)

-- ---- The whole

pub header-one_line : (v : Version) → IsOneLine (header v)
header-one_line One = above-one_line (codes "sedck 1") refl
header-one_line Two = above-one_line (codes "sedck 2") refl

pub nodes_in-small : (v : Version) (n : ℕ) → n ≤ 4095 → nodes_in v n < 2 ^ 16
nodes_in-small One n few = omega arith
nodes_in-small Two n few = omega arith

pub certificate_is_due : (v : Version) (c : Certificate) → IsCertificate v c → AreDue v Header (certificate_lines v c) Nothing
certificate_is_due v c h =
    let nodes = nodes_are_due v 0 c.ranks (omega (arith, h.nodes, nodes_in-small v c.commands h.commands)) (recursion_from_All AreWithin c.ranks h.ranks) in
    let reads = list_is_due v Reads c.reads 0 h.reads (omega (arith, h.size)) in
    let writes = list_is_due v Writes c.writes (0 + names_size c.reads) h.writes (omega (arith, h.size)) in
    let ending : AreDue v Last (codes "end" ∷ []) Nothing = (above-one_line (codes "end") refl, Nothing, (refl, refl), refl) in
    let end = codes "end" ∷ [] in
    let middle : Due = Names Writes (0 + names_size c.reads) in
    let files = are_due-append v (list_texts Reads c.reads) (list_texts Writes c.writes ++ end) (Names Reads 0) middle Nothing reads
    (are_due-append v (list_texts Writes c.writes) end middle Last Nothing writes ending) in
    let rest = are_due-append v (node_texts v 0 c.ranks) (list_texts Reads c.reads ++ (list_texts Writes c.writes ++ end))
    (nodes_due 0 (nodes_in v c.commands)) (Names Reads 0) Nothing (subst (λ n. AreDue v (nodes_due 0 n) (node_texts v 0 c.ranks) (Names Reads 0)) h.nodes nodes) files in (
      header-one_line v,
      Count,
      (refl, refl),
      (
        decimal-one_line (codes "commands ") c.commands (omega (arith, h.commands)) (above-one_line (codes "commands ") refl),
        nodes_due 0 (nodes_in v c.commands),
        (c.commands, h.commands, refl, refl),
        rest,
      ),
    )
