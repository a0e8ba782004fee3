-- How far a delimited part has been read.
use Rattle.sedck_commands.proofs.Common.{◌≡◌, ◌≢◌, ℕ, ◌-◌, ◌<◌, ◌≤◌, take, length-append, Some, inl, inr, ◌⊎◌, List, [], ◌∷◌, ◌++◌, length, refl, ap, sym, ◌∙◌, subst, append_assoc, append-nil, arith, DelimitedExpression, ExpressionText, DelimitedList, previous, expression, IsExpression, IsPattern, nat_tests, Tree, Pattern, Previous, Expression, IsPiece, IsReadUpTo, IsWrittenUpTo, list_escape, PatternText, unread, Cursor, unread_length, nil_from_length, ScriptFault, CutFault, Matched, read_alike}
use Rattle.sedck_commands.specs.Parts as p
use Rattle.sedck_commands.specs.declared.delimited.Piece.TheVariants as piece
use Rattle.sedck_expressions.specs.Shape.{SpellsTree}
use Rattle.sedck_commands.proofs.OffsetLemmas.{take_front}
use Rattle.sedck_commands.proofs.UniqueParts.{expression_one}

-- one more piece
pub piece_more : (Delimited : List ℕ → List ℕ → List ℕ → Type 0) {text rest behind : List ℕ} (bytes front all : List ℕ) → all ≡ bytes ++ front
    → IsReadUpTo Delimited text bytes rest → IsReadUpTo Delimited rest front behind → IsReadUpTo Delimited text all behind
piece_more Delimited bytes front all g h s more after x = rw (g, append_assoc) (h (front ++ more) after (s more after x))

pub expression_byte : {d b : ℕ} {text behind : List ℕ} → IsPiece d text (piece.Byte b) behind → IsReadUpTo (DelimitedExpression d) text (b ∷ []) behind
expression_byte h more after x = rw h.0 (p.byte h.1 h.2 h.3 x)

pub expression_pair : {d b : ℕ} {text behind : List ℕ} → b ≢ 10 → IsPiece d text (piece.Pair b) behind
    → IsReadUpTo (DelimitedExpression d) text (92 ∷ b ∷ []) behind
expression_pair m h more after x = rw h.0 (p.pair refl h.1 m x)

pub expression_end : {d : ℕ} {text rest behind : List ℕ} (bytes : List ℕ) → IsReadUpTo (DelimitedExpression d) text bytes rest → rest ≡ d ∷ behind
    → DelimitedExpression d text bytes behind
expression_end {behind = behind} bytes h e = rw append-nil at (h [] behind (rw e (p.ends refl)))

-- one more piece that is no escaped delimiter
pub written_more : {d : ℕ} {text rest behind : Cursor} (front : List ℕ) → behind.whole ≡ rest.whole → unread rest ≡ front ++ unread behind
    → IsReadUpTo (DelimitedExpression d) (unread rest) front (unread behind)
    → ((size opening : ℕ) (fault : ScriptFault) → CutFault size opening d (unread behind) fault → CutFault size opening d (unread rest) fault)
    → IsWrittenUpTo d text rest → IsWrittenUpTo d text behind
written_more {d} {behind = behind} front same e s more h = record {
  same = same ∙ h.same;
  written = h.written ++ front;
  cut = h.cut ∙ ap (λ t. h.written ++ t) e ∙ sym (append_assoc h.written front (unread behind));
  passed = piece_more (DelimitedExpression d) h.written front _ refl h.passed s;
  onward = λ size opening fault wrong. h.onward size opening fault (more size opening fault wrong);
}

-- what is written between the cursors, as a part of a view of the text
pub written_between : {d : ℕ} {from to : ℕ} {view : List ℕ} {text rest : Cursor} → IsWrittenUpTo d text rest → to ≡ rest.at → from ≡ text.at
    → view ≡ unread text
    → (from ≤ to) × (to - from ≤ length (unread text)) × ((written : List ℕ) × (unread text ≡ written ++ unread rest)
    × (take (to - from) view ≡ written) × IsReadUpTo (DelimitedExpression d) (unread text) written (unread rest))
written_between {from = from} {to = to} {text = text} {rest = rest} h e f v =
    let cut = ap length h.cut in
    let size = length-append h.written (unread rest) in
    let start = unread_length text in
    let end = unread_length rest in
    let same = ap (λ w. length w.now) h.same in
    let long : length h.written ≡ to - from = omega arith in
    let taken = take_front h.written (unread rest) (to - from) (sym long) in
    (omega arith, omega arith, (h.written, h.cut, ap (take (to - from)) (v ∙ h.cut) ∙ taken.0, h.passed))

-- what an escape of a list means
escape_cases : (b m : ℕ) → list_escape b ≡ Some m → ((b ≡ 92) × (m ≡ 92)) ⊎ ((b ≡ 110) × (m ≡ 10))
escape_cases b m h = grind (arith, nat_tests, h)

pub list_pair : {d b m : ℕ} {text behind : List ℕ} → list_escape b ≡ Some m → IsPiece d text (piece.Pair b) behind
    → IsReadUpTo (DelimitedList d) text (m ∷ []) behind
list_pair {b = b} {m} k h more after x =
    rw h.0 (elim (escape_cases b m k) [ inl f ↦ rw f.1 (p.backslashes refl f.0 x) | inr f ↦ rw f.1 (p.line refl h.1 f.0 x) ])

pub list_end : {d : ℕ} {text rest behind : List ℕ} (bytes : List ℕ) → IsReadUpTo (DelimitedList d) text bytes rest → rest ≡ d ∷ behind
    → DelimitedList d text bytes behind
list_end {behind = behind} bytes h e = rw append-nil at (h [] behind (rw e (p.ends refl)))

-- what is asked of an expression, apart from its spelling
spelled : (text : List ℕ) (t : Tree) → IsExpression text t → SpellsTree text t × read_alike (Matched t)
spelled text t h = ((h.0.0, h.0.1.numbered), (h.0.1, h.1))

shaped : (text : List ℕ) (t : Tree) → SpellsTree text t × read_alike (Matched t) → IsExpression text t
shaped text t h = ((h.0.0, h.1.0), h.1.1)

-- an empty expression, and one that isn't
pub pattern_none : {d : ℕ} {text bytes rest : List ℕ} → ExpressionText d text bytes rest → length bytes ≡ 0 → PatternText d text Previous rest
pattern_none {d} {text} {bytes} {rest} x e = let none = nil_from_length bytes e in ([], subst (λ t. ExpressionText d text t rest) none x, previous)

pub pattern_some : {d : ℕ} {text bytes rest : List ℕ} {tree : Tree} → ExpressionText d text bytes rest → 0 < length bytes → IsExpression bytes tree
    → PatternText d text (Expression tree) rest
pattern_some {bytes = bytes} {tree = tree} x some s = (bytes, x, is_expression bytes some s)
  where
    is_expression : (bytes : List ℕ) → 0 < length bytes → IsExpression bytes tree → IsPattern bytes (Expression tree)
    is_expression [] some s = absurd (omega arith)
    is_expression (b ∷ bytes) some s = expression (spelled (b ∷ bytes) tree s)

no_pattern_by : (bytes : List ℕ) (pattern : Pattern) → 0 < length bytes → ((t : Tree) → IsExpression bytes t → ⊥) → IsPattern bytes pattern → ⊥
no_pattern_by bytes pattern some n previous = omega arith
no_pattern_by bytes pattern some n (expression s) = n _ (shaped _ _ s)

pub no_pattern : {d : ℕ} {text bytes rest r : List ℕ} (pattern : Pattern) → d ≢ 92 → ExpressionText d text bytes rest → 0 < length bytes
    → ((t : Tree) → IsExpression bytes t → ⊥) → PatternText d text pattern r → ⊥
no_pattern {bytes = bytes} pattern k x some n y = no_pattern_by bytes pattern some n (subst (λ t. IsPattern t pattern) (expression_one k y.1.cut x.cut).0 y.2)
