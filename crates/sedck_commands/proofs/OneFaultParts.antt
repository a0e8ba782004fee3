-- Parts between delimiters have one fault at most, and can't be read where they have one.
use Rattle.sedck_commands.proofs.Common.{◌≡◌, ◌≢◌, ℕ, List, [], ◌∷◌, ◌++◌, length, None, refl, ap, sym, ◌∙◌, subst, append_assoc, inl, inr, ◌⊎◌, arith, false≢true, IsTrue, Pattern, DelimitedExpression, ExpressionText, DelimitedList, FirstList, is_misread, IsExpression, PatternText, Piece, IsPiece, list_escape, ScriptFault, append_cancel_left, append_cancel_right, Tree, ReFault, one_tree, BracketList, BracketsClose, IsNoExpression, IsMisjudged, BeginsAt, PieceFault, CutFault, ExpressionTextFault, PatternFault, ListFault, FirstListFault, Unterminated, EscapedDelimiter, BadExpression, BadTransliteration}
use Rattle.sedck_commands.specs.BracketLists as b
use Rattle.sedck_commands.specs.FirstFaults as o
use Rattle.sedck_commands.specs.declared.delimited.Piece.TheVariants as piece
use Rattle.sedck_commands.proofs.FirstBytes.{heads, tails}
use Rattle.sedck_commands.proofs.UniqueParts.{FirstPiece, at_piece, expression_first, expression_one, list_first, list_one}
use Rattle.sedck_commands.proofs.PieceLemmas.{no_pattern}
use Rattle.sedck_commands.proofs.BracketLemmas.{list_behind_one, no_first_list}
use Rattle.sedck_commands.proofs.OneFaultEnds.{at_one}

-- an expression is misjudged for one cause
abbrev pub OneCause : Type 0
OneCause = (expression : List ℕ) (cause other : ReFault) → IsMisjudged expression cause → IsMisjudged expression other → cause ≡ other

-- ---- Pieces

-- where a piece is missing: the part has no end, or the delimiter is escaped that can't be
abbrev PieceView : ℕ → ℕ → ℕ → List ℕ → ScriptFault → Type 0
PieceView size opening d text f = ((f ≡ Unterminated opening) × ((c : ℕ) (behind : List ℕ) → text ≡ 92 ∷ c ∷ behind → ⊥))
    ⊎ ((offset : ℕ) × (behind : List ℕ) × (f ≡ EscapedDelimiter offset) × (text ≡ 92 ∷ d ∷ behind) × BeginsAt size text offset)

piece_view : {size opening d : ℕ} {text : List ℕ} {f : ScriptFault} → PieceFault size opening d text f → PieceView size opening d text f
piece_view (o.over e) = inl (refl, λ c behind h. absurd (cc (e, h)))
piece_view (o.line e) = inl (refl, λ c behind h. omega (arith, heads (sym e ∙ h)))
piece_view (o.last e) = inl (refl, λ c behind h. omega (arith, ap length e, ap length h))
piece_view (o.forbidden {behind = behind} {offset = offset} e n a) = inr (offset, behind, refl, e, a)

pub piece_one : {size opening d : ℕ} {text : List ℕ} {f g : ScriptFault} → PieceFault size opening d text f → PieceFault size opening d text g → f ≡ g
piece_one x y = elim (piece_view x) [
  | inl u ↦ elim (piece_view y) [
    | inl v ↦ u.0 ∙ sym v.0
    | inr v ↦ absurd (u.1 _ _ v.3)
  ]
  | inr u ↦ elim (piece_view y) [
    | inl v ↦ absurd (v.1 _ _ u.3)
    | inr v ↦ u.2 ∙ ap EscapedDelimiter (at_one refl u.4 v.4) ∙ sym v.2
  ]
]

pub piece_not : {size opening d : ℕ} {text : List ℕ} {f : ScriptFault} (x : Piece) (rest : List ℕ) → d ≢ 92 → d ≢ 10 → PieceFault size opening d text f
    → IsPiece d text x rest → ⊥
piece_not piece.End rest n m (o.over e) h = absurd (cc (e, h))
piece_not piece.End rest n m (o.line e) h = m (heads (sym h ∙ e))
piece_not piece.End rest n m (o.last e) h = n (heads (sym h ∙ e))
piece_not piece.End rest n m (o.forbidden e k a) h = n (heads (sym h ∙ e))
piece_not (piece.Byte c) rest n m (o.over e) h = absurd (cc (e, h.0))
piece_not (piece.Byte c) rest n m (o.line e) h = h.3 (heads (sym h.0 ∙ e))
piece_not (piece.Byte c) rest n m (o.last e) h = h.2 (heads (sym h.0 ∙ e))
piece_not (piece.Byte c) rest n m (o.forbidden e k a) h = h.2 (heads (sym h.0 ∙ e))
piece_not piece.Escaped rest n m (o.forbidden e k a) h = false≢true (sym k ∙ h.1)
piece_not piece.Escaped rest n m (o.over e) h = absurd (cc (e, h.0))
piece_not piece.Escaped rest n m (o.line e) h = omega (arith, heads (sym h.0 ∙ e))
piece_not piece.Escaped rest n m (o.last e) h = omega (arith, ap length e, ap length h.0)
piece_not (piece.Pair c) rest n m (o.forbidden e k a) h = h.1 (heads (tails (sym h.0 ∙ e)))
piece_not (piece.Pair c) rest n m (o.over e) h = absurd (cc (e, h.0))
piece_not (piece.Pair c) rest n m (o.line e) h = omega (arith, heads (sym h.0 ∙ e))
piece_not (piece.Pair c) rest n m (o.last e) h = omega (arith, ap length e, ap length h.0)

-- what is wrong with a part: its first piece is missing, or it is there, and this is so of it and what follows it
abbrev pub PartView : ℕ → ℕ → ℕ → List ℕ → (Piece → List ℕ → ScriptFault → Type 0) → ScriptFault → Type 0
PartView size opening d text Behind f = PieceFault size opening d text f ⊎ FirstPiece d text (λ x rest. Behind x rest f)

pub missing_piece : {size opening d : ℕ} {text : List ℕ} {f g : ScriptFault} (Behind : Piece → List ℕ → ScriptFault → Type 0) → d ≢ 92 → d ≢ 10
    → PieceFault size opening d text g → PartView size opening d text Behind f → g ≡ f
missing_piece Behind n m x (inl y) = piece_one x y
missing_piece Behind n m x (inr y) = absurd (piece_not y.kind y.rest n m x y.is)

pub there_piece : {size opening d : ℕ} {text : List ℕ} {f : ScriptFault} (Behind : Piece → List ℕ → ScriptFault → Type 0) → d ≢ 92 → d ≢ 10 → (x : Piece)
    (rest : List ℕ) → IsPiece d text x rest → PartView size opening d text Behind f → Behind x rest f
there_piece Behind n m x rest h (inl y) = absurd (piece_not x rest n m y h)
there_piece Behind n m x rest h (inr y) = at_piece x rest y n h

-- ---- Expressions

abbrev CutBehind : ℕ → ℕ → ℕ → Piece → List ℕ → ScriptFault → Type 0
CutBehind size opening d piece.End rest f = ⊥
CutBehind size opening d (piece.Byte b) rest f = CutFault size opening d rest f
CutBehind size opening d piece.Escaped rest f = CutFault size opening d rest f
CutBehind size opening d (piece.Pair b) rest f = ((b ≡ 10) × (f ≡ Unterminated opening)) ⊎ ((b ≢ 10) × CutFault size opening d rest f)

cut_view : {size opening d : ℕ} {text : List ℕ} {f : ScriptFault} → d ≢ 10 → CutFault size opening d text f
    → PartView size opening d text (CutBehind size opening d) f
cut_view m (o.piece x) = inl x
cut_view m (o.line e) = inr (record { kind = piece.Pair 10; rest = _; is = (e, λ h. m (sym h)); behind = inl (refl, refl) })
cut_view m (o.byte {b = b} e h i j x) = inr (record { kind = piece.Byte b; rest = _; is = (e, h, i, j); behind = x })
cut_view m (o.escaped e h x) = inr (record { kind = piece.Escaped; rest = _; is = (e, h); behind = x })
cut_view m (o.pair {b = b} e h i x) = inr (record { kind = piece.Pair b; rest = _; is = (e, h); behind = inr (i, x) })

pub cut_one : {size opening d : ℕ} {text : List ℕ} {f g : ScriptFault} → d ≢ 92 → d ≢ 10 → CutFault size opening d text f → CutFault size opening d text g
    → f ≡ g
cut_one n m (o.piece x) y = missing_piece (CutBehind _ _ _) n m x (cut_view m y)
cut_one n m (o.line e) y = elim (there_piece (CutBehind _ _ _) n m (piece.Pair 10) _ (e, λ h. m (sym h)) (cut_view m y)) [
  | inl k ↦ sym k.1
  | inr k ↦ absurd (k.0 refl)
]
cut_one n m (o.byte {b = b} e h i j x) y = cut_one n m x (there_piece (CutBehind _ _ _) n m (piece.Byte b) _ (e, h, i, j) (cut_view m y))
cut_one n m (o.escaped e h x) y = cut_one n m x (there_piece (CutBehind _ _ _) n m piece.Escaped _ (e, h) (cut_view m y))
cut_one n m (o.pair {b = b} e h i x) y = elim (there_piece (CutBehind _ _ _) n m (piece.Pair b) _ (e, h) (cut_view m y)) [
  | inl k ↦ absurd (i k.0)
  | inr k ↦ cut_one n m x k.1
]

pub cut_not : {size opening d : ℕ} {text bytes rest : List ℕ} {f : ScriptFault} → d ≢ 92 → d ≢ 10 → CutFault size opening d text f
    → DelimitedExpression d text bytes rest → ⊥
cut_not n m (o.piece x) y = let first = expression_first y in piece_not first.kind first.rest n m x first.is
cut_not n m (o.line e) y = (at_piece (piece.Pair 10) _ (expression_first y) n (e, λ h. m (sym h))).0 refl
cut_not n m (o.byte {b = b} e h i j x) y = cut_not n m x (at_piece (piece.Byte b) _ (expression_first y) n (e, h, i, j)).2
cut_not n m (o.escaped e h x) y = cut_not n m x (at_piece piece.Escaped _ (expression_first y) n (e, h)).2
cut_not n m (o.pair {b = b} e h i x) y = cut_not n m x (at_piece (piece.Pair b) _ (expression_first y) n (e, h)).3

-- what is after the first byte that a text and its expression don't share
escape_behind : {d : ℕ} (f g x y m n : List ℕ) → d ≢ 92 → f ++ 92 ∷ d ∷ x ≡ g ++ 92 ∷ d ∷ y → f ++ d ∷ m ≡ g ++ d ∷ n → x ≡ y
escape_behind [] [] x y m n k e h = tails (tails e)
escape_behind [] (b ∷ g) x y m n k e h = absurd (k (heads h ∙ sym (heads e)))
escape_behind (b ∷ f) [] x y m n k e h = absurd (k (sym (heads h) ∙ heads e))
escape_behind (b ∷ f) (c ∷ g) x y m n k e h = escape_behind f g x y m n k (tails e) (tails h)

pub expression_text_one : {size opening d : ℕ} {text : List ℕ} {f g : ScriptFault} → d ≢ 92 → d ≢ 10 → ExpressionTextFault size opening d text f
    → ExpressionTextFault size opening d text g → f ≡ g
expression_text_one n m (o.cut x) (o.cut y) = cut_one n m x y
expression_text_one n m (o.cut x) (o.misread front behind more y i e h a) = absurd (cut_not n m x y)
expression_text_one n m (o.misread front behind more x i e h a) (o.cut y) = absurd (cut_not n m y x)
expression_text_one {d = d} n m (o.misread front behind more x i e h a) (o.misread front' behind' more' y j k l c) =
    let behinds = escape_behind front front' behind behind' more more' n (sym e ∙ k) (sym h ∙ (expression_one n x y).0 ∙ l) in
    ap EscapedDelimiter (at_one (ap (λ t. 92 ∷ d ∷ t) behinds) a c)

pub expression_text_not : {size opening d : ℕ} {text bytes rest : List ℕ} {f : ScriptFault} → d ≢ 92 → d ≢ 10 → ExpressionTextFault size opening d text f
    → ExpressionText d text bytes rest → ⊥
expression_text_not n m (o.cut x) y = cut_not n m x y.cut
expression_text_not {d = d} {text = text} {rest = rest} n m (o.misread front behind more x i e h a) y =
    let same = (expression_one n x y.cut).0 in
    let plain = y.alike (subst (λ t. IsTrue (is_misread d t)) same i) in
    let starts : front ++ 92 ∷ d ∷ behind ≡ front ++ d ∷ (more ++ d ∷ rest) =
    sym e ∙ plain ∙ ap (λ t. t ++ d ∷ rest) (sym same ∙ h) ∙ append_assoc front (d ∷ more) (d ∷ rest) in
    n (sym (heads (append_cancel_left front _ _ starts)))

cause_one : {expression : List ℕ} {cause other : ReFault} → OneCause → IsNoExpression expression cause ⊎ IsMisjudged expression cause
    → IsNoExpression expression other ⊎ IsMisjudged expression other → cause ≡ other
cause_one one (inl x) (inl y) = cc (sym x.first ∙ y.first)
cause_one one (inl x) (inr y) = absurd (x.spelled _ y.spelled)
cause_one one (inr x) (inl y) = absurd (y.spelled _ x.spelled)
cause_one one (inr x) (inr y) = one _ _ _ x y

no_tree : {expression : List ℕ} {cause : ReFault} → IsNoExpression expression cause ⊎ IsMisjudged expression cause → (t : Tree) → IsExpression expression t
    → ⊥
no_tree (inl x) t s = x.spelled t s.0
no_tree {expression} (inr x) t s = false≢true (sym (rw (one_tree expression t x.tree s.0 x.spelled) at s.1) ∙ x.misjudged)

pub pattern_fault_one : {size opening d : ℕ} {text : List ℕ} {f g : ScriptFault} → OneCause → d ≢ 92 → d ≢ 10 → PatternFault size opening d text f
    → PatternFault size opening d text g → f ≡ g
pattern_fault_one one n m (o.unread x) (o.unread y) = expression_text_one n m x y
pattern_fault_one one n m (o.unread x) (o.refused y some c a) = absurd (expression_text_not n m x y)
pattern_fault_one one n m (o.refused x some c a) (o.unread y) = absurd (expression_text_not n m y x)
pattern_fault_one one n m (o.refused {cause = cause} x some c a) (o.refused y some' c' a') =
    let same = (expression_one n x.cut y.cut).0 in
    let causes = cause_one one (subst (λ t. IsNoExpression t cause ⊎ IsMisjudged t cause) same c) c' in
    let places = at_one refl a a' in
    λ i. BadExpression (places i) (causes i)

pub pattern_fault_not : {size opening d : ℕ} {text rest : List ℕ} {pattern : Pattern} {f : ScriptFault} → d ≢ 92 → d ≢ 10
    → PatternFault size opening d text f → PatternText d text pattern rest → ⊥
pattern_fault_not n m (o.unread x) y = expression_text_not n m x y.1
pattern_fault_not {pattern = pattern} n m (o.refused x some c a) y = no_pattern pattern n x some (no_tree c) y

-- ---- Lists of `y`

-- a byte that a backslash gives no meaning in a list
abbrev IsMeaningless : ℕ → Type 0
IsMeaningless b = (b ≢ 10) × (b ≢ 92) × (b ≢ 110)

abbrev ListBehind : ℕ → ℕ → ℕ → List ℕ → Piece → List ℕ → ScriptFault → Type 0
ListBehind size opening d text piece.End rest f = ⊥
ListBehind size opening d text (piece.Byte b) rest f = ListFault size opening d rest f
ListBehind size opening d text piece.Escaped rest f = ListFault size opening d rest f
ListBehind size opening d text (piece.Pair b) rest f = ((b ≡ 10) × (f ≡ Unterminated opening))
    ⊎ ((IsMeaningless b × (offset : ℕ) × BeginsAt size text offset × (f ≡ BadTransliteration offset))
    ⊎ (((b ≡ 92) ⊎ (b ≡ 110)) × ListFault size opening d rest f))

list_view : {size opening d : ℕ} {text : List ℕ} {f : ScriptFault} → d ≢ 10 → ListFault size opening d text f
    → PartView size opening d text (ListBehind size opening d text) f
list_view m (o.piece x) = inl x
list_view m (o.line e) = inr (record { kind = piece.Pair 10; rest = _; is = (e, λ h. m (sym h)); behind = inl (refl, refl) })
list_view m (o.meaningless {b = b} {offset = offset} e h i j k a) =
    inr (record { kind = piece.Pair b; rest = _; is = (e, h); behind = inr (inl ((i, j, k), offset, a, refl)) })
list_view m (o.byte {b = b} e h i j x) = inr (record { kind = piece.Byte b; rest = _; is = (e, h, i, j); behind = x })
list_view m (o.escaped e h x) = inr (record { kind = piece.Escaped; rest = _; is = (e, h); behind = x })
list_view m (o.meant {b = b} e h i x) = inr (record { kind = piece.Pair b; rest = _; is = (e, h); behind = inr (inr (i, x)) })

meant_other : {b : ℕ} → (b ≡ 92) ⊎ (b ≡ 110) → IsMeaningless b → ⊥
meant_other (inl h) n = n.1 h
meant_other (inr h) n = n.2 h

meant_line : {b : ℕ} → (b ≡ 92) ⊎ (b ≡ 110) → b ≡ 10 → ⊥
meant_line (inl h) e = omega (arith, h, e)
meant_line (inr h) e = omega (arith, h, e)

pub list_fault_one : {size opening d : ℕ} {text : List ℕ} {f g : ScriptFault} → d ≢ 92 → d ≢ 10 → ListFault size opening d text f
    → ListFault size opening d text g → f ≡ g
list_fault_one n m (o.piece x) y = missing_piece (ListBehind _ _ _ _) n m x (list_view m y)
list_fault_one n m (o.line e) y = elim (there_piece (ListBehind _ _ _ _) n m (piece.Pair 10) _ (e, λ h. m (sym h)) (list_view m y)) [
  | inl k ↦ sym k.1
  | inr (inl k) ↦ absurd (k.0.0 refl)
  | inr (inr k) ↦ absurd (meant_line k.0 refl)
]
list_fault_one n m (o.meaningless {b = b} e h i j l a) y = elim (there_piece (ListBehind _ _ _ _) n m (piece.Pair b) _ (e, h) (list_view m y)) [
  | inl k ↦ absurd (i k.0)
  | inr (inl k) ↦ ap BadTransliteration (at_one refl a k.2) ∙ sym k.3
  | inr (inr k) ↦ absurd (meant_other k.0 (i, j, l))
]
list_fault_one n m (o.byte {b = b} e h i j x) y = list_fault_one n m x (there_piece (ListBehind _ _ _ _) n m (piece.Byte b) _ (e, h, i, j) (list_view m y))
list_fault_one n m (o.escaped e h x) y = list_fault_one n m x (there_piece (ListBehind _ _ _ _) n m piece.Escaped _ (e, h) (list_view m y))
list_fault_one n m (o.meant {b = b} e h i x) y = elim (there_piece (ListBehind _ _ _ _) n m (piece.Pair b) _ (e, h) (list_view m y)) [
  | inl k ↦ absurd (meant_line i k.0)
  | inr (inl k) ↦ absurd (meant_other i k.0)
  | inr (inr k) ↦ list_fault_one n m x k.1
]

escape_none : (b : ℕ) → b ≢ 92 → b ≢ 110 → list_escape b ≡ None
escape_none b h i = grind (arith, h, i)

pub list_fault_not : {size opening d : ℕ} {text bytes rest : List ℕ} {f : ScriptFault} → d ≢ 92 → d ≢ 10 → ListFault size opening d text f
    → DelimitedList d text bytes rest → ⊥
list_fault_not n m (o.piece x) y = let first = list_first n y in piece_not first.kind first.rest n m x first.is
list_fault_not n m (o.line e) y = absurd (cc (at_piece (piece.Pair 10) _ (list_first n y) n (e, λ h. m (sym h))).1)
list_fault_not n m (o.meaningless {b = b} e h i j k a) y =
    absurd (cc (escape_none b j k, (at_piece (piece.Pair b) _ (list_first n y) n (e, h)).1))
list_fault_not n m (o.byte {b = b} e h i j x) y = list_fault_not n m x (at_piece (piece.Byte b) _ (list_first n y) n (e, h, i, j)).2
list_fault_not n m (o.escaped e h x) y = list_fault_not n m x (at_piece piece.Escaped _ (list_first n y) n (e, h)).2
list_fault_not n m (o.meant {b = b} e h i x) y = list_fault_not n m x (at_piece (piece.Pair b) _ (list_first n y) n (e, h)).2.2

-- no bracket list begins the text that is closed
abbrev IsOpen : List ℕ → Type 0
IsOpen text = (end : List ℕ) → BracketList text end → ⊥

-- one bracket list is the first that is open
open_one : {text x y : List ℕ} → BracketsClose text (91 ∷ x) → IsOpen x → BracketsClose text (91 ∷ y) → IsOpen y → x ≡ y
open_one b.here n b.here m = refl
open_one b.here n (b.byte h i z) m = absurd (h refl)
open_one b.here n (b.pair h z) m = absurd (omega (arith, h))
open_one b.here n (b.list h l z) m = absurd (n _ l)
open_one (b.byte h i z) n b.here m = absurd (h refl)
open_one (b.byte h i z) n (b.byte j k w) m = open_one z n w m
open_one (b.byte h i z) n (b.pair j w) m = absurd (i j)
open_one (b.byte h i z) n (b.list j l w) m = absurd (h j)
open_one (b.pair h z) n b.here m = absurd (omega (arith, h))
open_one (b.pair h z) n (b.byte j k w) m = absurd (k h)
open_one (b.pair h z) n (b.pair j w) m = open_one z n w m
open_one (b.pair h z) n (b.list j l w) m = absurd (omega (arith, h, j))
open_one (b.list h l z) n b.here m = absurd (m _ l)
open_one (b.list h l z) n (b.byte j k w) m = absurd (j h)
open_one (b.list h l z) n (b.pair j w) m = absurd (omega (arith, h, j))
open_one (b.list h l z) n (b.list j k w) m = open_one z n (rw (list_behind_one k l) at w) m

pub first_list_one : {size opening d : ℕ} {text : List ℕ} {f g : ScriptFault} → d ≢ 92 → d ≢ 10 → FirstListFault size opening d text f
    → FirstListFault size opening d text g → f ≡ g
first_list_one n m (o.list x) (o.list y) = list_fault_one n m x y
first_list_one n m (o.list x) (o.bracket y e k none a) = absurd (list_fault_not n m x y)
first_list_one n m (o.bracket x e k none a) (o.list y) = absurd (list_fault_not n m y x)
first_list_one {d = d} n m (o.bracket {written = w} {more = more} x e k none a) (o.bracket {rest = r} {written = v} y h l none' c) =
    let rests = (list_one n x y).1 in
    let same : w ≡ v = append_cancel_right w v (d ∷ r) (ap (λ t. w ++ d ∷ t) (sym rests) ∙ sym e ∙ h) in
    let lists = open_one (subst (λ t. BracketsClose t (91 ∷ more)) same k) none l none' in
    ap BadTransliteration (at_one (λ i. 91 ∷ (lists i ++ d ∷ rests i)) a c)

pub first_list_not : {size opening d : ℕ} {text bytes rest : List ℕ} {f : ScriptFault} → d ≢ 92 → d ≢ 10 → FirstListFault size opening d text f
    → FirstList d text bytes rest → ⊥
first_list_not n m (o.list x) y = list_fault_not n m x y.list
first_list_not n m (o.bracket x e k none a) y = no_first_list n x e k none y
