-- How long the text of a certificate can be, line by line.
use Rattle.sedck_cert.proofs.Common.{◌≡◌, ℕ, suc, ◌+◌, ◌-◌, ◌*◌, ◌%◌, ◌<◌, ◌≤◌, List, [], ◌∷◌, ◌++◌, length, take, take_all, decimal, codes, Option, Some, None, refl, ◌∙◌, ap, inl, inr, arith, length-append, AllByRecursion, length-decimal-le, recursion_from_All, sum_by-cons, names_size, Certificate, IsCertificate, nodes_in, AreWithin, line, header, ranks_text, words_in, node_text, node_texts, joined_lines, files_text, SpellsCertificate, Version, One, Two, length-take, text_limit}
use Rattle.std.proofs.Common.{◌/◌}
use Rattle.sedck_cert.specs.Text.{text_in}

length-append_two : (a b c : List ℕ) → length (a ++ b ++ c) ≡ length a + length b + length c
length-append_two a b c = length-append (a ++ b) c ∙ ap (λ n. n + length c) (length-append a b)

-- ---- The lines of the nodes

-- What the lines of the nodes before this one take at most: a number of bytes each, and one more for each digit of a place after its first.
-- From place 10 on places have two digits.
abbrev pub limit_before : Version → ℕ → ℕ
limit_before One node = 16 * node + (node - 20) + (node - 200) + (node - 2000)
limit_before Two node = 18 * node + (node - 40) + (node - 400) + (node - 4000)

-- how many digits a place has
digits_of : (place : ℕ) → place < 10000 → (length (decimal place) ≤ 4) × (place < 1000 → length (decimal place) ≤ 3)
    × (place < 100 → length (decimal place) ≤ 2) × (place < 10 → length (decimal place) ≤ 1)
digits_of place small = (
  length-decimal-le 4 place (omega arith) (omega arith) (omega arith),
  λ less. length-decimal-le 3 place (omega arith) (omega arith) (omega arith),
  λ less. length-decimal-le 2 place (omega arith) (omega arith) (omega arith),
  λ less. length-decimal-le 1 place (omega arith) (omega arith) (omega arith),
)

place_one : (node : ℕ) → node < 8192 → length (decimal (node / 2)) + 15 + limit_before One node ≤ limit_before One (suc node)
place_one node small = let digits = digits_of (node / 2) (omega arith) in grind (arith, digits)

place_two : (node : ℕ) → node < 16384 → length (decimal (node / 4)) + 17 + limit_before Two node ≤ limit_before Two (suc node)
place_two node small = let digits = digits_of (node / 4) (omega arith) in grind (arith, digits)

line_length : (text : List ℕ) → length (line text) ≡ length text + 1
line_length text = length-append text (10 ∷ [])

bit_length : (n : ℕ) → length (decimal (n % 2)) ≤ 1
bit_length n = length-decimal-le 1 (n % 2) (omega arith) (omega arith) (omega arith)

rank_length : (rank : ℕ) → rank ≤ 65535 → length (decimal rank) ≤ 5
rank_length rank small = length-decimal-le 5 rank (omega arith) (omega arith) (omega arith)

ranks_length : (ranks : Option (ℕ × ℕ)) → AreWithin ranks → length (ranks_text ranks) ≤ 11
ranks_length None within = omega arith
ranks_length (Some r) within =
    omega (arith, length-append_two (decimal r.0) (codes " ") (decimal r.1), rank_length r.0 within.0, rank_length r.1 within.1)

-- the words of a node, beside 13 bytes for its ranks, a space and a newline
words_length : (v : Version) (node : ℕ) → node < nodes_in v 4095 → length (words_in v node) + 13 + limit_before v node ≤ limit_before v (suc node)
words_length One node small =
    omega (arith, length-append_two (decimal (node / 2)) (codes " ") (decimal (node % 2)), bit_length node, place_one node small)
words_length Two node small =
    let front = length-append_two (decimal (node / 4)) (codes " ") (decimal (node / 2 % 2)) in
    let text = length-append_two (decimal (node / 4) ++ codes " " ++ decimal (node / 2 % 2)) (codes " ") (decimal (node % 2)) in
    omega (arith, text, front, bit_length (node / 2), bit_length node, place_two node small)

node_length : (v : Version) (node : ℕ) (ranks : Option (ℕ × ℕ)) → node < nodes_in v 4095 → AreWithin ranks
    → length (line (node_text v node ranks)) + limit_before v node ≤ limit_before v (suc node)
node_length v node ranks small within =
    let text : length (node_text v node ranks) ≡ length (words_in v node) + 1 + length (ranks_text ranks) =
    length-append_two (words_in v node) (codes " ") (ranks_text ranks) in
    omega (arith, line_length (node_text v node ranks), text, ranks_length ranks within, words_length v node small)

nodes_length : (v : Version) (node : ℕ) (all : List (Option (ℕ × ℕ))) → node + length all ≤ nodes_in v 4095 → AllByRecursion AreWithin all
    → length (joined_lines (node_texts v node all)) + limit_before v node ≤ limit_before v (node + length all)
nodes_length v node [] small within = omega (arith, ap (limit_before v) (let e : node ≡ node + 0 = omega arith in e))
nodes_length v node (ranks ∷ all) small within =
    let first = node_length v node ranks (omega arith) within.0 in
    let rest = nodes_length v (suc node) all (omega arith) within.1 in
    let same : suc node + length all ≡ node + length (ranks ∷ all) = omega arith in
    let end : limit_before v (suc node + length all) ≡ limit_before v (node + length (ranks ∷ all)) = ap (limit_before v) same in
    let both = length-append (line (node_text v node ranks)) (joined_lines (node_texts v (suc node) all)) in
    omega (arith, first, rest, end, both)

-- what the lines of all nodes leave for the others
limits : (v : Version) (n : ℕ) → n ≤ 4095 → limit_before v (nodes_in v n) + 1048623 ≤ text_limit v
limits One n few = omega arith
limits Two n few = omega arith

nodes_most : (v : Version) (n : ℕ) → n ≤ 4095 → nodes_in v n ≤ nodes_in v 4095
nodes_most One n few = omega arith
nodes_most Two n few = omega arith

all_length : (v : Version) (c : Certificate) → IsCertificate v c → length (joined_lines (node_texts v 0 c.ranks)) + 1048623 ≤ text_limit v
all_length v c within =
    let all = nodes_length v 0 c.ranks (omega (arith, within.nodes, nodes_most v c.commands within.commands))
    (recursion_from_All AreWithin c.ranks within.ranks) in
    omega (arith, all, ap (limit_before v) (let e : 0 + length c.ranks ≡ length c.ranks = omega arith in e ∙ within.nodes), limits v c.commands within.commands)

-- ---- The lists of names

names_length : (names : List (List ℕ)) → length (joined_lines names) ≡ names_size names
names_length [] = refl
names_length (name ∷ names) =
    omega (arith, length-append (line name) (joined_lines names), line_length name, names_length names, sum_by-cons (λ (n : List ℕ). length n + 1) name names)

-- a line of a word and a number of at most four digits
count_length : (word : List ℕ) (n : ℕ) → n ≤ 4095 → length (line (word ++ decimal n)) ≤ length word + 5
count_length word n few =
    let digits = length-decimal-le 4 n (omega arith) (omega arith) (omega arith) in
    omega (arith, digits, line_length (word ++ decimal n), length-append word (decimal n))

header_length : (v : Version) → length (line (header v)) ≡ 8
header_length One = line_length (codes "sedck 1")
header_length Two = line_length (codes "sedck 2")

files_length : (v : Version) (c : Certificate) → IsCertificate v c → length (files_text c.reads c.writes) ≤ 1048597
files_length v c within =
    let read = line (codes "read " ++ decimal (length c.reads)) in
    let write = line (codes "write " ++ decimal (length c.writes)) in
    let parts : length (files_text c.reads c.writes) ≡ length read + length (joined_lines c.reads) + length write + length (joined_lines c.writes) =
    length-append_two (read ++ joined_lines c.reads) write (joined_lines c.writes)
    ∙ ap (λ n. n + length write + length (joined_lines c.writes)) (length-append read (joined_lines c.reads)) in
    omega (
      arith,
      parts,
      count_length (codes "read ") (length c.reads) within.reads.count,
      count_length (codes "write ") (length c.writes) within.writes.count,
      names_length c.reads,
      names_length c.writes,
      within.size,
    )

-- ---- The text

pub text_length : (v : Version) (c : Certificate) → IsCertificate v c → length (text_in v c) ≤ text_limit v
unfolding text_in
text_length v c within =
    let head = line (header v) in
    let count = line (codes "commands " ++ decimal c.commands) in
    let nodes = joined_lines (node_texts v 0 c.ranks) in
    let files = files_text c.reads c.writes in
    let end = line (codes "end") in
    let parts : length (head ++ count ++ nodes ++ files ++ end) ≡ length head + length count + length nodes + length files + length end =
    length-append_two (head ++ count ++ nodes) files end
    ∙ ap (λ n. n + length files + length end) (length-append_two head count nodes) in
    omega (
      arith,
      parts,
      header_length v,
      line_length (codes "end"),
      count_length (codes "commands ") c.commands within.commands,
      all_length v c within,
      files_length v c within,
    )

-- the same of a text of either version
pub text_length_of_spelled : (text : List ℕ) (c : Certificate) → SpellsCertificate text c → length text ≤ 1388247
text_length_of_spelled text c (inl h) = omega (arith, ap length h.is_text, text_length Two c h.within)
text_length_of_spelled text c (inr h) = omega (arith, ap length h.1.is_text, text_length One h.0 h.1.within)

-- a text whose first 1,572,865 bytes spell a certificate has no more of them
pub front_is_whole : (text : List ℕ) (c : Certificate) → SpellsCertificate (take 1572865 text) c → take 1572865 text ≡ text
front_is_whole text c h = take_all 1572865 text
    (omega (arith, length-take 1572865 text, text_length_of_spelled (take 1572865 text) c h))
