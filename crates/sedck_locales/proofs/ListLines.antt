-- The lists of a command are those of its expressions, a line for each.
use Rattle.std.proofs.Common.{◌≡◌, ◌≢◌, ℕ, Bool, true, false, not, List, [], ◌∷◌, ◌++◌, map, refl, ap, sym, ◌∙◌, subst, arith, append_assoc, append-nil}
use Rattle.std.specs.Prelude.{⊤, ◌<◌, length, ◌||◌, IsTrue, if◌then◌else◌}
use Rattle.std.proofs.Common.{length-append}
use Rattle.sedck_text.proofs.Runs.{longest_one}
use Rattle.sedck_commands.proofs.FirstBytes.{tails}
use Rattle.std.specs.List.{list_all}
use Rattle.std.proofs.lemmas.Bool.{and_parts, and_from}
use Rattle.std.proofs.lemmas.Bool.Decides.{nat_tests}
use Rattle.sedck_commands.specs.Cuts.{is_newline, is_delimiter, Longest}
use Rattle.sedck_commands.specs.Program.{Place, Address}
use Rattle.sedck_commands.specs.Parts.{DelimitedExpression, PlaceText, AddressText}
use Rattle.sedck_commands.specs.Parts as p
use Rattle.sedck_commands.specs.Items.{WrittenVerb, VerbText, CommandText}
use Rattle.sedck_commands.specs.Items as w
use Rattle.sedck_plain.specs.WrittenLists.{after, is_in_list, lists_from, expression_lists, place_lists, address_lists, verb_lists, command_lists}
use Rattle.sedck_plain.specs.declared.written.Position.{Position}
use Rattle.sedck_plain.specs.declared.written.Position.TheVariants.{Outside}
use Rattle.sedck_locales.specs.Written.{place_expressions, address_expressions, verb_expressions, command_expressions}

-- no newline is in the text
abbrev pub IsLine : List ℕ → Type 0
IsLine text = list_all (λ b. not (is_newline b)) text ≡ true

other_byte : (b : ℕ) → b ≢ 10 → not (is_newline b) ≡ true
other_byte b n = grind (arith, nat_tests, n)

line_cons : (b : ℕ) (text : List ℕ) → b ≢ 10 → IsLine text → IsLine (b ∷ text)
line_cons b text n h = and_from (not (is_newline b)) (list_all (λ c. not (is_newline c)) text) (other_byte b n) h

kept_line : (keep : Bool) (b : ℕ) (text : List ℕ) → not (is_newline b) ≡ true → IsLine text → IsLine ((if keep then b ∷ [] else []) ++ text)
kept_line true b text n h = and_from (not (is_newline b)) (list_all (λ c. not (is_newline c)) text) n h
kept_line false b text n h = h

lists_line : (position : Position) (text : List ℕ) → IsLine text → IsLine (lists_from position text)
lists_line position [] h = refl
lists_line position (b ∷ text) h =
    let both = and_parts (not (is_newline b)) (list_all (λ c. not (is_newline c)) text) h in
    kept_line (is_in_list position || is_in_list (after position b)) b (lists_from (after position b) text) both.0 (lists_line (after position b) text both.1)

expression_line : {d : ℕ} {text e rest : List ℕ} → d ≢ 10 → DelimitedExpression d text e rest → IsLine e
expression_line n (p.ends h) = refl
expression_line n (p.byte {b = b} {expression = e} f g h x) = line_cons b e h (expression_line n x)
expression_line n (p.escaped {b = b} {expression = e} f g h x) = line_cons b e (λ same. n (sym g ∙ same)) (expression_line n x)
expression_line n (p.pair {a = a} {b = b} {expression = e} f g h x) =
    line_cons a (b ∷ e) (λ same. omega (arith, same, f)) (line_cons b e h (expression_line n x))

no_newline : {d : ℕ} → IsTrue (is_delimiter d) → d ≢ 10
no_newline {d} h e = grind (arith, nat_tests, h, e)

-- ---- Lines one after another

-- the lists of these expressions
abbrev pub lines_of : List (List ℕ) → List ℕ
lines_of [] = []
lines_of (e ∷ es) = expression_lists e ++ lines_of es

abbrev pub AreLines : List (List ℕ) → Type 0
AreLines [] = ⊤
AreLines (e ∷ es) = IsLine e × AreLines es

lines_append : (es fs : List (List ℕ)) → lines_of (es ++ fs) ≡ lines_of es ++ lines_of fs
lines_append [] fs = refl
lines_append (e ∷ es) fs = ap (λ t. expression_lists e ++ t) (lines_append es fs) ∙ sym (append_assoc (expression_lists e) (lines_of es) (lines_of fs))

are_append : (es fs : List (List ℕ)) → AreLines es → AreLines fs → AreLines (es ++ fs)
are_append [] fs h k = k
are_append (e ∷ es) fs h k = (h.0, are_append es fs h.1 k)

line_apart : (x y u v : List ℕ) → IsLine x → IsLine y → x ++ 10 ∷ [] ++ u ≡ y ++ 10 ∷ [] ++ v → (x ≡ y) × (u ≡ v)
line_apart x y u v h k same =
    let one : Longest (λ b. not (is_newline b)) (x ++ 10 ∷ [] ++ u) x (10 ∷ u) = record { cut = append_assoc x (10 ∷ []) u; passes = h; stops = refl } in
    let two : Longest (λ b. not (is_newline b)) (y ++ 10 ∷ [] ++ v) y (10 ∷ v) = record { cut = append_assoc y (10 ∷ []) v; passes = k; stops = refl } in
    let both = longest_one (subst (λ t. Longest (λ b. not (is_newline b)) t x (10 ∷ u)) same one) two in
    (both.0, tails both.1)

some_line : (x u : List ℕ) → 0 < length (x ++ 10 ∷ [] ++ u)
some_line x u = omega (arith, length-append (x ++ 10 ∷ []) u, length-append x (10 ∷ []))

pub lines_apart : (es fs : List (List ℕ)) → AreLines es → AreLines fs → lines_of es ≡ lines_of fs
    → map (lists_from Outside) es ≡ map (lists_from Outside) fs
lines_apart [] [] h k same = refl
lines_apart [] (f ∷ fs) h k same = absurd (omega (arith, some_line (lists_from Outside f) (lines_of fs), ap length same))
lines_apart (e ∷ es) [] h k same = absurd (omega (arith, some_line (lists_from Outside e) (lines_of es), ap length same))
lines_apart (e ∷ es) (f ∷ fs) h k same =
    let both = line_apart (lists_from Outside e) (lists_from Outside f) (lines_of es) (lines_of fs) (lists_line Outside e h.0) (lists_line Outside f k.0) same in
    cc (both.0, lines_apart es fs h.1 k.1 both.1)

-- ---- Commands

place_lines : {text rest : List ℕ} {place : Place} (here : PlaceText text place rest)
    → (place_lists here ≡ lines_of (place_expressions here)) × AreLines (place_expressions here)
place_lines (p.line x) = (refl, tt)
place_lines (p.last f) = (refl, tt)
place_lines (p.context {expression = e} f x y) = (sym (append-nil (expression_lists e)), (expression_line (λ same. omega arith) x.cut, tt))
place_lines (p.custom {expression = e} f d x y) = (sym (append-nil (expression_lists e)), (expression_line (no_newline d) x.cut, tt))

address_lines : {text rest : List ℕ} {address : Address} (here : AddressText text address rest)
    → (address_lists here ≡ lines_of (address_expressions here)) × AreLines (address_expressions here)
address_lines p.none = (refl, tt)
address_lines (p.one x) = place_lines x
address_lines (p.two x l e m y) =
    let one = place_lines x in
    let two = place_lines y in (
      ap (λ t. t ++ place_lists y) one.0 ∙ ap (λ t. lines_of (place_expressions x) ++ t) two.0
          ∙ sym (lines_append (place_expressions x) (place_expressions y)),
      are_append (place_expressions x) (place_expressions y) one.1 two.1,
    )

verb_lines : {text rest : List ℕ} {verb : WrittenVerb} (here : VerbText text verb rest)
    → (verb_lists here ≡ lines_of (verb_expressions here)) × AreLines (verb_expressions here)
verb_lines (w.substitute {expression = e} f d x y r g k) = (sym (append-nil (expression_lists e)), (expression_line (no_newline d) x.cut, tt))
verb_lines _ = (refl, tt)

command_lines : {text rest : List ℕ} {address : Address} {negated : Bool} {verb : WrittenVerb} (here : CommandText text address negated verb rest)
    → (command_lists here ≡ lines_of (command_expressions here)) × AreLines (command_expressions here)
command_lines here =
    let one = address_lines here.addresses in
    let two = verb_lines here.verbs in
    let es = address_expressions here.addresses in
    let fs = verb_expressions here.verbs in
    (ap (λ t. t ++ verb_lists here.verbs) one.0 ∙ ap (λ t. lines_of es ++ t) two.0 ∙ sym (lines_append es fs), are_append es fs one.1 two.1)

pub by_expression : (text rest other left : List ℕ) (a b : Address) (m n : Bool) (v u : WrittenVerb) (one : CommandText text a m v rest)
    (two : CommandText other b n u left) → command_lists one ≡ command_lists two
    → map (lists_from Outside) (command_expressions one) ≡ map (lists_from Outside) (command_expressions two)
by_expression text rest other left a b m n v u one two same =
    let first = command_lines one in
    let second = command_lines two in
    lines_apart (command_expressions one) (command_expressions two) first.1 second.1 (sym first.0 ∙ same ∙ second.0)
