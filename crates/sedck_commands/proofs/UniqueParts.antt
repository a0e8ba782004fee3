-- Each part of a command is cut in one way at most, and means one thing.
use Rattle.sedck_commands.proofs.Common.{◌≡◌, ◌≢◌, ℕ, ◌<◌, Bool, cond, true, false, not, ◌||◌, List, [], ◌∷◌, ◌++◌, length, Some, None, refl, ap, sym, ◌∙◌, subst, subst₂, inl, inr, ◌⊎◌, arith, list_all, digits_value, false≢true, false_from_ne_true, and_parts, or_left, is_newline, is_blank, is_digit, is_ending, IsEmptyOr, Longest, Pattern, Expression, Part, Text, Whole, Substitution, Ends, Number, DelimitedExpression, previous, expression, DelimitedList, EscapedPart, Replacement, is_plain, Lines, GivenText, LabelText, NameIn, IsPatternIn, FlagsIn, longest_one, Piece, IsPiece, list_escape, Narrowings, or_right, one_spelling, is_letter}
use Rattle.sedck_commands.specs.Parts as p
use Rattle.sedck_commands.proofs.FirstBytes.{heads}
use Rattle.sedck_commands.specs.declared.delimited.Piece.TheVariants as piece

pub ends_one : {text r s : List ℕ} → Ends text r → Ends text s → r ≡ s
ends_one e f = (longest_one e.run f.run).1

pub number_one : {text r s : List ℕ} {m n : ℕ} → Number text m r → Number text n s → (m ≡ n) × (r ≡ s)
number_one a b = let one = longest_one a.run b.run in (a.is ∙ ap (digits_value 10) one.0 ∙ sym b.is, one.1)

pub name_one : {asks : Narrowings} {text f g r s : List ℕ} → NameIn asks text f r → NameIn asks text g s → (f ≡ g) × (r ≡ s)
name_one {text = text} {f = f} {g = g} {r = r} {s = s} l m = longest_one l.run (subst (λ t. Longest (λ b. not (is_newline b)) t g s) (longest_one m.skipped l.skipped).1 m.run)

-- ---- Pieces

-- the first piece of a text, and what is so of it and what follows it
pub record FirstPiece (d : ℕ) (text : List ℕ) (Behind : Piece → List ℕ → Type 0) : Type 0 where
  pub kind : Piece
  pub rest : List ℕ
  pub is : IsPiece d text kind rest
  pub behind : Behind kind rest

piece_one : {d : ℕ} (text r s : List ℕ) (x y : Piece) → d ≢ 92 → IsPiece d text x r → IsPiece d text y s → (x ≡ y) × (r ≡ s)
piece_one text r s piece.End piece.End n h k = (refl, cc (h, k))
piece_one text r s (piece.Byte b) (piece.Byte c) n h k = (cc (h.0, k.0), cc (h.0, k.0))
piece_one text r s piece.Escaped piece.Escaped n h k = (refl, cc (h.0, k.0))
piece_one text r s (piece.Pair b) (piece.Pair c) n h k = (cc (h.0, k.0), cc (h.0, k.0))
piece_one text r s x y n h k = absurd (grind (arith, n, h, k))

-- a piece with which the text begins is the first one
pub at_piece : {d : ℕ} {text : List ℕ} {Behind : Piece → List ℕ → Type 0} (x : Piece) (rest : List ℕ) → FirstPiece d text Behind → d ≢ 92
    → IsPiece d text x rest → Behind x rest
at_piece {text = text} {Behind = Behind} x rest f n h = let one = piece_one text f.rest rest f.kind x n f.is h in subst₂ Behind one.0 one.1 f.behind

-- this one, and then the others
abbrev pub Then : {A : Type 0} → (List ℕ → List A → List ℕ → Type 0) → A → List ℕ → List A → List ℕ → Type 0
Then {A} Delimited one rest all r = (more : List A) × (all ≡ one ∷ more) × Delimited rest more r

then_one : {A : Type 0} {one : A} {xs ys more : List A} {r s : List ℕ} → (xs ≡ more) × (r ≡ s) → ys ≡ one ∷ more → (one ∷ xs ≡ ys) × (r ≡ s)
then_one h e = (cc (h.0, e), h.1)

abbrev pub ExpressionBehind : ℕ → List ℕ → List ℕ → Piece → List ℕ → Type 0
ExpressionBehind d e r piece.End rest = ([] ≡ e) × (rest ≡ r)
ExpressionBehind d e r (piece.Byte b) rest = Then (DelimitedExpression d) b rest e r
ExpressionBehind d e r piece.Escaped rest = Then (DelimitedExpression d) d rest e r
ExpressionBehind d e r (piece.Pair b) rest = (b ≢ 10) × (more : List ℕ) × (e ≡ 92 ∷ b ∷ more) × DelimitedExpression d rest more r

pub expression_first : {d : ℕ} {text e r : List ℕ} → DelimitedExpression d text e r → FirstPiece d text (ExpressionBehind d e r)
expression_first (p.ends {rest = rest} h) = record { kind = piece.End; rest = rest; is = cc h; behind = (refl, refl) }
expression_first (p.byte {b = b} f g h x) = record { kind = piece.Byte b; rest = _; is = (refl, f, g, h); behind = (_, refl, x) }
expression_first (p.escaped f g h x) = record { kind = piece.Escaped; rest = _; is = (cc (f, g), h); behind = (_, cc g, x) }
expression_first (p.pair {b = b} f g h x) = record { kind = piece.Pair b; rest = _; is = (cc f, g); behind = (h, _, cc f, x) }

pub expression_one : {d : ℕ} {text e f r s : List ℕ} → d ≢ 92 → DelimitedExpression d text e r → DelimitedExpression d text f s → (e ≡ f) × (r ≡ s)
expression_one n (p.ends h) y = at_piece piece.End _ (expression_first y) n (cc h)
expression_one n (p.byte {b = b} f g h x) y =
    let more = at_piece (piece.Byte b) _ (expression_first y) n (refl, f, g, h) in then_one (expression_one n x more.2) more.1
expression_one n (p.escaped f g h x) y = let more = at_piece piece.Escaped _ (expression_first y) n (cc (f, g), h) in
    then_one (expression_one n x more.2) (cc (g, more.1))
expression_one n (p.pair {b = b} f g h x) y = let more = at_piece (piece.Pair b) _ (expression_first y) n (cc f, g) in
    then_one (then_one (expression_one n x more.3) refl) (cc (f, more.2))

-- an expression has one pattern, since it has one tree
pub pattern_one : {asks : Narrowings} {text : List ℕ} {q r : Pattern} → IsPatternIn asks text q → IsPatternIn asks text r → q ≡ r
pattern_one previous previous = refl
pattern_one (expression h) (expression g) = ap Expression (one_spelling _ _ _ h.0 g.0)

abbrev pub ListBehind : ℕ → List ℕ → List ℕ → Piece → List ℕ → Type 0
ListBehind d e r piece.End rest = ([] ≡ e) × (rest ≡ r)
ListBehind d e r (piece.Byte b) rest = Then (DelimitedList d) b rest e r
ListBehind d e r piece.Escaped rest = Then (DelimitedList d) d rest e r
ListBehind d e r (piece.Pair b) rest = (m : ℕ) × (list_escape b ≡ Some m) × Then (DelimitedList d) m rest e r

pub list_first : {d : ℕ} {text e r : List ℕ} → d ≢ 92 → DelimitedList d text e r → FirstPiece d text (ListBehind d e r)
list_first n (p.ends {rest = rest} h) = record { kind = piece.End; rest = rest; is = cc h; behind = (refl, refl) }
list_first n (p.byte {b = b} f g h x) = record { kind = piece.Byte b; rest = _; is = (refl, f, g, h); behind = (_, refl, x) }
list_first n (p.escaped f g h x) = record { kind = piece.Escaped; rest = _; is = (cc (f, g), h); behind = (_, cc g, x) }
list_first n (p.backslashes {b = b} f g x) =
    record { kind = piece.Pair b; rest = _; is = (cc f, λ e. n (sym e ∙ g)); behind = (92, rw g refl, (_, refl, x)) }
list_first n (p.line {b = b} f g h x) = record { kind = piece.Pair b; rest = _; is = (cc f, g); behind = (10, rw h refl, (_, refl, x)) }

pub list_one : {d : ℕ} {text e f r s : List ℕ} → d ≢ 92 → DelimitedList d text e r → DelimitedList d text f s → (e ≡ f) × (r ≡ s)
list_one n (p.ends h) y = at_piece piece.End _ (list_first n y) n (cc h)
list_one n (p.byte {b = b} f g h x) y = let more = at_piece (piece.Byte b) _ (list_first n y) n (refl, f, g, h) in then_one (list_one n x more.2) more.1
list_one n (p.escaped f g h x) y = let more = at_piece piece.Escaped _ (list_first n y) n (cc (f, g), h) in
    then_one (list_one n x more.2) (cc (g, more.1))
list_one n (p.backslashes {b = b} f g x) y = let more = at_piece (piece.Pair b) _ (list_first n y) n (cc f, λ e. n (sym e ∙ g)) in
    then_one (list_one n x more.2.2) (cc (sym (ap list_escape g) ∙ more.1, more.2.1))
list_one n (p.line {b = b} f g h x) y = let more = at_piece (piece.Pair b) _ (list_first n y) n (cc f, g) in
    then_one (list_one n x more.2.2) (cc (sym (ap list_escape h) ∙ more.1, more.2.1))

pub no_letter : {b : ℕ} {c : ℕ} → b ≡ c → is_letter c ≡ true → is_letter b ≡ false → ⊥
no_letter e h g = false≢true (sym g ∙ ap is_letter e ∙ h)

pub escaped_one : {b : ℕ} {q r : Part} → EscapedPart b q → EscapedPart b r → q ≡ r
escaped_one (p.line e) (p.line f) = refl
escaped_one (p.line e) (p.tabulator f) = absurd (omega (arith, e, f))
escaped_one (p.line e) (p.group f g) = absurd (omega (arith, e))
escaped_one (p.line e) (p.other f g) = absurd (no_letter e refl f)
escaped_one (p.tabulator e) (p.line f) = absurd (omega (arith, e, f))
escaped_one (p.tabulator e) (p.tabulator f) = refl
escaped_one (p.tabulator e) (p.group f g) = absurd (omega (arith, e))
escaped_one (p.tabulator e) (p.other f g) = absurd (no_letter e refl f)
escaped_one (p.group e h) (p.line f) = absurd (omega (arith, f))
escaped_one (p.group e h) (p.tabulator f) = absurd (omega (arith, f))
escaped_one (p.group e h) (p.group f g) = refl
escaped_one (p.group e h) (p.other f g) = absurd (grind (arith, e, h, g))
escaped_one (p.other e h) (p.line f) = absurd (no_letter f refl e)
escaped_one (p.other e h) (p.tabulator f) = absurd (no_letter f refl e)
escaped_one (p.other e h) (p.group f g) = absurd (grind (arith, f, g, h))
escaped_one (p.other e h) (p.other f g) = refl

pub lines_one : {text e f r s : List ℕ} → Lines text e r → Lines text f s → (e ≡ f) × (r ≡ s)
lines_one p.all p.all = (refl, refl)
lines_one (p.ends h) (p.ends g) = (refl, refl)
lines_one (p.ends h) (p.byte i j y) = absurd (i h)
lines_one (p.ends h) (p.pair i y) = absurd (omega (arith, h, i))
lines_one (p.ends h) (p.last i) = absurd (omega (arith, h, i))
lines_one (p.byte f g x) (p.ends h) = absurd (f h)
lines_one (p.byte f g x) (p.byte i j y) = then_one (lines_one x y) refl
lines_one (p.byte f g x) (p.pair i y) = absurd (g i)
lines_one (p.byte f g x) (p.last i) = absurd (g i)
lines_one (p.pair f x) (p.ends h) = absurd (omega (arith, h, f))
lines_one (p.pair f x) (p.byte i j y) = absurd (j f)
lines_one (p.pair f x) (p.pair i y) = then_one (then_one (lines_one x y) refl) refl
lines_one (p.last h) (p.ends i) = absurd (omega (arith, h, i))
lines_one (p.last h) (p.byte i j y) = absurd (j h)
lines_one (p.last h) (p.last i) = (refl, refl)

plainly_no_line : {b c : ℕ} {text blanks more : List ℕ} → b ≡ 10 → Longest is_blank (b ∷ text) blanks (c ∷ more) → c ≢ 10 → ⊥
plainly_no_line {b} {text = text} e l other =
    let line : Longest is_blank (b ∷ text) [] (b ∷ text) = record { cut = refl; passes = refl; stops = rw e refl } in
    other (heads (longest_one l line).1 ∙ e)

pub given_one : {text e f r s : List ℕ} → GivenText text e r → GivenText text f s → (e ≡ f) × (r ≡ s)
given_one (p.below h g x) (p.below i j y) = lines_one x y
given_one (p.below h g x) (p.behind i l m n y) = absurd (plainly_no_line g l m)
given_one (p.below h g x) (p.at_once i j y) = absurd (j h)
given_one (p.behind h l m n x) (p.below i j y) = absurd (plainly_no_line j l m)
given_one (p.behind h l m n x) (p.behind i j k o y) = lines_one x y
given_one (p.behind h l m n x) (p.at_once i j y) = absurd (j h)
given_one (p.at_once h g x) (p.below i j y) = absurd (g i)
given_one (p.at_once h g x) (p.behind i l m n y) = absurd (g i)
given_one (p.at_once h g x) (p.at_once i j y) = lines_one x y

pub no_plain : (d c : ℕ) → is_plain d c ≡ true → (c ≢ d) × (c ≢ 92) × (c ≢ 38) × (c ≢ 10)
no_plain d c h = (λ e. grind (arith, h, e), λ e. grind (arith, h, e), λ e. grind (arith, h, e), λ e. grind (arith, h, e))

abbrev pub PartsBehind : ℕ → List ℕ → List Part → List ℕ → Piece → List ℕ → Type 0
PartsBehind d text ps r piece.End rest = ([] ≡ ps) × (rest ≡ r)
PartsBehind d text ps r (piece.Byte b) rest = ((b ≡ 38) × Then (Replacement d) Whole rest ps r)
    ⊎ ((bytes behind : List ℕ) × Longest (is_plain d) text (b ∷ bytes) behind × Then (Replacement d) (Text (b ∷ bytes)) behind ps r)
PartsBehind d text ps r piece.Escaped rest = Then (Replacement d) (Text (d ∷ [])) rest ps r
PartsBehind d text ps r (piece.Pair b) rest = (first : Part) × EscapedPart b first × Then (Replacement d) first rest ps r

pub plain_run : {d b : ℕ} {text bytes behind : List ℕ} → Longest (is_plain d) text (b ∷ bytes) behind → (b ≢ d) × (b ≢ 92) × (b ≢ 38) × (b ≢ 10)
plain_run {d} {b} {bytes = bytes} l = no_plain d b (and_parts (is_plain d b) (list_all (is_plain d) bytes) l.passes).0

run_piece : {d b : ℕ} {text bytes behind : List ℕ} → Longest (is_plain d) text (b ∷ bytes) behind → IsPiece d text (piece.Byte b) (bytes ++ behind)
run_piece l = let plain = plain_run l in (l.cut, plain.0, plain.1, plain.3)

pub replacement_first : {d : ℕ} {text r : List ℕ} {ps : List Part} → Replacement d text ps r → FirstPiece d text (PartsBehind d text ps r)
replacement_first (p.ends {rest = rest} h) = record { kind = piece.End; rest = rest; is = cc h; behind = (refl, refl) }
replacement_first (p.whole {b = b} f g x) =
    record { kind = piece.Byte b; rest = _; is = (refl, f, λ e. omega (arith, g, e), λ e. omega (arith, g, e)); behind = inl (g, (_, refl, x)) }
replacement_first (p.escaped f g h x) = record { kind = piece.Escaped; rest = _; is = (cc (f, g), h); behind = (_, cc g, x) }
replacement_first (p.part {b = b} f g h x) = record { kind = piece.Pair b; rest = _; is = (cc f, g); behind = (_, h, (_, refl, x)) }
replacement_first (p.run {b = b} {bytes = bytes} {behind = behind} l x) =
    record { kind = piece.Byte b; rest = bytes ++ behind; is = run_piece l; behind = inr (bytes, behind, l, (_, refl, x)) }

pub whole_behind : {d b : ℕ} {text behind r : List ℕ} {all : List Part} → d ≢ 92 → IsPiece d text (piece.Byte b) behind → b ≡ 38
    → Replacement d text all r → Then (Replacement d) Whole behind all r
whole_behind {b = b} n h e x = elim (at_piece (piece.Byte b) _ (replacement_first x) n h) [
  | inl more ↦ more.1
  | inr run ↦ absurd ((plain_run run.2).2 e)
]

pub run_behind : {d c : ℕ} {text bytes behind r : List ℕ} {all : List Part} → Longest (is_plain d) text (c ∷ bytes) behind → d ≢ 92
    → Replacement d text all r → Then (Replacement d) (Text (c ∷ bytes)) behind all r
run_behind {c = c} l n x = elim (at_piece (piece.Byte c) _ (replacement_first x) n (run_piece l)) [
  | inl more ↦ absurd ((plain_run l).2 more.0)
  | inr run ↦ (let one = longest_one run.2 l in (run.3.0, cc (one.0, run.3.1), rw one.1 at run.3.2))
]

pub replacement_one : {d : ℕ} {text r s : List ℕ} {ps qs : List Part} → d ≢ 92 → Replacement d text ps r → Replacement d text qs s → (ps ≡ qs) × (r ≡ s)
replacement_one n (p.ends h) y = at_piece piece.End _ (replacement_first y) n (cc h)
replacement_one n (p.whole {b = b} f g x) y =
    let more = whole_behind n (refl, f, λ e. omega (arith, g, e), λ e. omega (arith, g, e)) g y in then_one (replacement_one n x more.2) more.1
replacement_one n (p.escaped f g h x) y = let more = at_piece piece.Escaped _ (replacement_first y) n (cc (f, g), h) in
    then_one (replacement_one n x more.2) (cc (g, more.1))
replacement_one n (p.part {b = b} f g h x) y = let more = at_piece (piece.Pair b) _ (replacement_first y) n (cc f, g) in
    then_one (replacement_one n x more.2.2) (cc (escaped_one h more.1, more.2.1))
replacement_one n (p.run l x) y = let more = run_behind l n y in then_one (replacement_one n x more.2) more.1

-- the first byte of a number, and of the end of a command
pub number_first : {text r : List ℕ} {n : ℕ} → Number text n r → (b : ℕ) × (rest : List ℕ) × (text ≡ b ∷ rest) × (is_digit b ≡ true)
number_first {text} {r} a = first a.digits text a.run.cut a.run.passes a.some
  where
    first : (digits t : List ℕ) → t ≡ digits ++ r → list_all is_digit digits ≡ true → 0 < length digits
        → (b : ℕ) × (rest : List ℕ) × (t ≡ b ∷ rest) × (is_digit b ≡ true)
    first [] t e all some = absurd (omega arith)
    first (b ∷ digits) t e all some = (b, digits ++ r, e, (and_parts (is_digit b) (list_all is_digit digits) all).0)

-- the first byte of a run and of what ends it passes one of their tests
pub run_first : (test end : ℕ → Bool) (text front rest : List ℕ) → text ≡ front ++ rest → list_all test front ≡ true → IsEmptyOr end rest
    → IsEmptyOr (λ b. test b || end b) text
run_first test end [] front rest e all h = tt
run_first test end (b ∷ text) [] [] e all h = absurd (cc e)
run_first test end (b ∷ text) [] (c ∷ rest) e all h = rw (heads e) (or_right (test c) (end c) h)
run_first test end (b ∷ text) (c ∷ front) rest e all h = rw (heads e) (or_left (test c) (end c) (and_parts (test c) (list_all test front) all).0)

pub ends_first : {b : ℕ} {text rest : List ℕ} → Ends (b ∷ text) rest → (is_blank b || is_ending b) ≡ true
ends_first {b} {text} {rest} e = run_first is_blank is_ending (b ∷ text) e.blanks rest e.run.cut e.run.passes e.ending

pub digit_no_end : (b : ℕ) → is_digit b ≡ true → (is_blank b || is_ending b) ≡ true → ⊥
digit_no_end b h g = grind (arith, h, g)

pub number_no_byte : {b c : ℕ} {text r : List ℕ} {n : ℕ} → b ≡ c → is_digit c ≡ false → Number (b ∷ text) n r → ⊥
number_no_byte e h a = let f = number_first a in false≢true (sym h ∙ ap is_digit (sym e ∙ heads f.2) ∙ f.3)

abbrev pub with_file : Pattern → List Part → List ℕ → Substitution
with_file q ps n = record { pattern = q; parts = ps; global = false; print = false; nth = None; file = Some n }

-- ---- Flags

-- a byte of a flag, or 1 for a digit, and 0 for what is at their end
abbrev pub flag_class : ℕ → ℕ
flag_class b = cond (is_digit b) 1 (cond (is_blank b || is_ending b) 0 b)

abbrev pub head_flag : List ℕ → ℕ
head_flag [] = 0
head_flag (b ∷ text) = flag_class b

abbrev pub flag_of : {asks : Narrowings} {q : Pattern} {ps : List Part} {text r : List ℕ} {s : Substitution} → FlagsIn asks q ps text s r → ℕ
flag_of (p.none e m) = 0
flag_of (p.file e n) = 119
flag_of (p.global e x y) = 103
flag_of (p.print e x y) = 112
flag_of (p.number n x y) = 1

end_flag : (text : List ℕ) {rest : List ℕ} → Ends text rest → head_flag text ≡ 0
end_flag [] e = refl
end_flag (b ∷ text) e = let ends = ends_first e in rw (false_from_ne_true (is_digit b) (λ h. digit_no_end b h ends), ends) refl

pub number_flag : {text rest : List ℕ} {n : ℕ} → Number text n rest → head_flag text ≡ 1
number_flag n = let first = number_first n in ap head_flag first.2 ∙ rw first.3 refl

pub flags_begin : {asks : Narrowings} {q : Pattern} {ps : List Part} {text r : List ℕ} {s : Substitution} (x : FlagsIn asks q ps text s r)
    → head_flag text ≡ flag_of x
flags_begin {text = text} (p.none e m) = end_flag text e
flags_begin (p.number n x y) = number_flag n
flags_begin (p.file e n) = ap flag_class e
flags_begin (p.global e x y) = ap flag_class e
flags_begin (p.print e x y) = ap flag_class e

pub flags_one : {asks : Narrowings} {q : Pattern} {ps : List Part} {text r s : List ℕ} {x y : Substitution} → FlagsIn asks q ps text x r
    → FlagsIn asks q ps text y s → (x ≡ y) × (r ≡ s)
flags_one (p.none e m) (p.none f n) = (refl, ends_one e f)
flags_one (p.file f g) (p.file i j) = let one = name_one g j in (ap (with_file _ _) one.0, one.1)
flags_one (p.global f g h) (p.global i j k) = let one = flags_one g j in (ap (λ (o : Substitution). record o { global = true }) one.0, one.1)
flags_one (p.print f g h) (p.print i j k) = let one = flags_one g j in (ap (λ (o : Substitution). record o { print = true }) one.0, one.1)
flags_one {asks} {q} {ps} {s = s} (p.number f g h) (p.number {others = o} i j k) =
    let n = number_one f i in
    let one = flags_one g (subst (λ t. FlagsIn asks q ps t o s) (sym n.1) j) in
    (λ l. record (one.0 l) { nth = Some (n.0 l) }, one.1)
flags_one x y = absurd (omega (arith, sym (flags_begin x) ∙ flags_begin y))

pub label_one : {text f g r s : List ℕ} → LabelText text f r → LabelText text g s → (f ≡ g) × (r ≡ s)
label_one {text} {f} {g} {r} {s} l m = longest_one l.run (let e : m.begins ≡ l.begins = (longest_one m.skipped l.skipped).1 in rw e at m.run)
