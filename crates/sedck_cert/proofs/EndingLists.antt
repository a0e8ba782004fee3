-- A certificate's text ends with its lists of files, and with no others.
use Rattle.sedck_cert.proofs.Common.{◌≡◌, inl, inr, ℕ, suc, ◌+◌, ◌<◌, ◌≤◌, ◌^◌, List, [], ◌∷◌, ◌++◌, length, Contains, decimal, codes, Option, length-append, refl, sym, ◌∙◌, ap, subst, arith, true, false, ◌/◌, flat_map, AllByRecursion, false≢true, All-from_recursion, recursion_from_All, decimal_injective, append_cancel_left, newline, AreNames, IsName, all_append, Certificate, AreWithin, header, words_in, node_text, node_texts, joined_lines, IsOneLine, IsTextOf, FileLists, file_lists, SpellsCertificate, Version, One, Two, all_weaker, last_lines, EndsWithLists}
use Rattle.sedck_text.specs.Text.{one_of, begins}
use Rattle.sedck_cert.proofs.CutLemmas.{decimal-in_range}
use Rattle.sedck_cert.proofs.LinesAreText.{above-one_line, decimal-one_line, node_text-one_line, header-one_line, nodes_in-small, certificate_lines-joined}
use Rattle.sedck_cert.proofs.UniqueTexts.{lines_one, no_line, append_split}

-- ---- Lines that don't begin with an `r`

abbrev IsEarlier : List ℕ → Type 0
IsEarlier text = begins "r" text ≡ false

abbrev IsEarlierLine : List ℕ → Type 0
IsEarlierLine text = IsOneLine text × IsEarlier text

-- more of a text that begins otherwise
more : (a b : List ℕ) → (0 < length a) × (begins "r" a ≡ false) → (0 < length (a ++ b)) × (begins "r" (a ++ b) ≡ false)
more [] b h = absurd (omega (arith, h.0))
more (c ∷ a) b h = (omega arith, h.1)

no_letter : (b : ℕ) → 48 ≤ b → b ≤ 57 → one_of "r" b ≡ false
no_letter b h g = grind (arith, h, g)

begins_digit : (n : ℕ) (text : List ℕ) → ((byte : ℕ) → Contains text byte → (48 ≤ byte) × (byte ≤ 57))
    → (0 < length (text ++ codes " ")) × (begins "r" (text ++ codes " ") ≡ false)
begins_digit n [] h = (omega arith, refl)
begins_digit n (b ∷ text) h = let digit = h b (0, omega arith, refl) in (omega arith, no_letter b digit.0 digit.1)

begins_number : (n : ℕ) → n < 2 ^ 64 → (0 < length (decimal n ++ codes " ")) × (begins "r" (decimal n ++ codes " ") ≡ false)
begins_number n small = begins_digit n (decimal n) (λ byte has. decimal-in_range n byte small has)

begins_words : (v : Version) (node : ℕ) → node < 2 ^ 16 → (0 < length (words_in v node)) × (begins "r" (words_in v node) ≡ false)
begins_words One node small = more _ _ (begins_number (node / 2) (omega arith))
begins_words Two node small = more _ _ (more _ _ (more _ _ (begins_number (node / 4) (omega arith))))

node_before : (v : Version) (node : ℕ) (ranks : Option (ℕ × ℕ)) → node < 2 ^ 16 → AreWithin ranks → IsEarlierLine (node_text v node ranks)
node_before v node ranks small within = (node_text-one_line v node ranks small within, (more _ _ (more _ _ (begins_words v node small))).1)

nodes_before : (v : Version) (node : ℕ) (all : List (Option (ℕ × ℕ))) → node + length all < 2 ^ 16 → AllByRecursion AreWithin all
    → AllByRecursion IsEarlierLine (node_texts v node all)
nodes_before v node [] small within = tt
nodes_before v node (ranks ∷ all) small within = (node_before v node ranks (omega arith) within.0, nodes_before v (suc node) all (omega arith) within.1)

header_before : (v : Version) → begins "r" (header v) ≡ false
header_before One = refl
header_before Two = refl

-- lines that are joined are each ended by a newline
joined_lines-flat : (lines : List (List ℕ)) → joined_lines lines ≡ flat_map (λ l. l ++ newline ∷ []) lines
joined_lines-flat [] = refl
joined_lines-flat (l ∷ lines) = ap (λ t. (l ++ newline ∷ []) ++ t) (joined_lines-flat lines)

-- ---- A certificate's text ends so

-- the text ends with these lists, which aren't long
pub record Ending (text : List ℕ) (files : FileLists) : Type 0 where
  pub ends : EndsWithLists text files
  pub reads : length files.reads ≤ 4095
  pub writes : length files.writes ≤ 4095

one_lines : (names : List (List ℕ)) → AreNames names → AllByRecursion IsOneLine names
one_lines names are = all_weaker IsName IsOneLine (λ name h. h.one_line) names (recursion_from_All IsName names are.each)

last_one : (files : FileLists) → AreNames files.reads → AreNames files.writes → AllByRecursion IsOneLine (last_lines files)
last_one files reads writes =
    let word : (n : ℕ) (text : List ℕ) → n ≤ 4095 → IsOneLine text → IsOneLine (text ++ decimal n) =
    λ n text few one. decimal-one_line text n (omega (arith, few)) one in (
      word (length files.reads) (codes "read ") reads.count (above-one_line (codes "read ") refl),
      all_append IsOneLine files.reads _ (one_lines files.reads reads) (
        word (length files.writes) (codes "write ") writes.count (above-one_line (codes "write ") refl),
        all_append IsOneLine files.writes _ (one_lines files.writes writes) (above-one_line (codes "end") refl, tt),
      ),
    )

text_ends : (v : Version) (text : List ℕ) (c : Certificate) → IsTextOf v text c → Ending text (file_lists c)
text_ends v text c h =
    let within = h.within in
    let nodes = nodes_before v 0 c.ranks (omega (arith, within.nodes, nodes_in-small v c.commands within.commands))
    (recursion_from_All AreWithin c.ranks within.ranks) in
    let commands : IsOneLine (codes "commands " ++ decimal c.commands) =
    decimal-one_line (codes "commands ") c.commands (omega (arith, within.commands)) (above-one_line (codes "commands ") refl) in
    let earlier = header v ∷ (codes "commands " ++ decimal c.commands) ∷ node_texts v 0 c.ranks in
    let lines : AllByRecursion IsEarlierLine earlier = ((header-one_line v, header_before v), ((commands, refl), nodes)) in
    let last = last_lines (file_lists c) in
    record {
      ends = record {
        earlier = earlier;
        are_earlier = All-from_recursion IsEarlier earlier (all_weaker IsEarlierLine IsEarlier (λ l both. both.1) earlier lines);
        are_lines = All-from_recursion IsOneLine (earlier ++ last)
            (all_append IsOneLine earlier last (all_weaker IsEarlierLine IsOneLine (λ l both. both.0) earlier lines)
            (last_one (file_lists c) within.reads within.writes));
        is_text = h.is_text ∙ sym (certificate_lines-joined v c) ∙ joined_lines-flat (earlier ++ last);
      };
      reads = within.reads.count;
      writes = within.writes.count;
    }

pub spelled_ends : (text : List ℕ) (c : Certificate) → SpellsCertificate text c → Ending text (file_lists c)
spelled_ends text c (inl two) = text_ends Two text c two
spelled_ends text c (inr (earlier, one, is)) = subst (λ d. Ending text (file_lists d)) (sym is) (text_ends One text earlier one)

-- ---- And with no others

same_lines : (xs ys : List (List ℕ)) → AllByRecursion IsOneLine xs → AllByRecursion IsOneLine ys → joined_lines xs ≡ joined_lines ys → xs ≡ ys
same_lines [] [] h k e = refl
same_lines [] (y ∷ ys) h k e = absurd (no_line y (joined_lines ys) e)
same_lines (x ∷ xs) [] h k e = absurd (no_line x (joined_lines xs) (sym e))
same_lines (x ∷ xs) (y ∷ ys) h k e =
    let both = lines_one x y (joined_lines xs) (joined_lines ys) h.0 k.0 e in cc (both.0, same_lines xs ys h.1 k.1 both.1)

-- what begins at the first line with an `r` in front
same_from : (a b : List (List ℕ)) (x y : List ℕ) (xs ys : List (List ℕ)) → AllByRecursion IsEarlier a → AllByRecursion IsEarlier b
    → begins "r" x ≡ true → begins "r" y ≡ true → a ++ x ∷ xs ≡ b ++ y ∷ ys → x ∷ xs ≡ y ∷ ys
same_from [] [] x y xs ys h k f g e = e
same_from [] (l ∷ b) x y xs ys h k f g e = let same : x ≡ l = cc e in absurd (false≢true (sym k.0 ∙ ap (begins "r") (sym same) ∙ f))
same_from (l ∷ a) [] x y xs ys h k f g e = let same : l ≡ y = cc e in absurd (false≢true (sym h.0 ∙ ap (begins "r") same ∙ g))
same_from (l ∷ a) (m ∷ b) x y xs ys h k f g e = let rest : a ++ x ∷ xs ≡ b ++ y ∷ ys = cc e in same_from a b x y xs ys h.1 k.1 f g rest

lists_same : (l m : FileLists) → length l.reads ≤ 4095 → length l.writes ≤ 4095 → last_lines l ≡ last_lines m → m ≡ l
lists_same l m few less e =
    let end = codes "end" ∷ [] in
    let after : FileLists → List (List ℕ) = λ files. (codes "write " ++ decimal (length files.writes)) ∷ (files.writes ++ end) in
    let heads : codes "read " ++ decimal (length l.reads) ≡ codes "read " ++ decimal (length m.reads) = cc e in
    let tails : l.reads ++ after l ≡ m.reads ++ after m = cc e in
    let long = ap length tails in
    let left = length-append l.reads (after l) in
    let right = length-append m.reads (after m) in
    let inside = length-append l.writes end in
    let outside = length-append m.writes end in
    let count : length l.reads ≡ length m.reads =
    decimal_injective (length l.reads) (length m.reads) (omega arith) (omega (arith, long, left, right, inside))
    (append_cancel_left (codes "read ") (decimal (length l.reads)) (decimal (length m.reads)) heads) in
    let reads = append_split l.reads m.reads (after l) (after m) count tails in
    let others : l.writes ++ end ≡ m.writes ++ end = cc (reads.1) in
    let writes = append_split l.writes m.writes end end (omega (arith, ap length others, inside, outside)) others in
    λ i. record { reads = sym reads.0 i; writes = sym writes.0 i }

all_lines : {text : List ℕ} {files : FileLists} (ends : EndsWithLists text files) → AllByRecursion IsOneLine (ends.earlier ++ last_lines files)
all_lines {files = files} ends = recursion_from_All IsOneLine (ends.earlier ++ last_lines files) ends.are_lines

joined : {text : List ℕ} {files : FileLists} (ends : EndsWithLists text files) → joined_lines (ends.earlier ++ last_lines files) ≡ text
joined {files = files} ends = joined_lines-flat (ends.earlier ++ last_lines files) ∙ sym ends.is_text

pub lists_only : {text : List ℕ} {files : FileLists} → Ending text files → (other : FileLists) → EndsWithLists text other → other ≡ files
lists_only {files = files} e other o =
    let lines = same_lines (e.ends.earlier ++ last_lines files) (o.earlier ++ last_lines other) (all_lines e.ends) (all_lines o) (joined e.ends ∙ sym (joined o)) in
    lists_same files other e.reads e.writes
    (same_from e.ends.earlier o.earlier _ _ _ _ (recursion_from_All IsEarlier e.ends.earlier e.ends.are_earlier)
    (recursion_from_All IsEarlier o.earlier o.are_earlier) refl refl lines)
