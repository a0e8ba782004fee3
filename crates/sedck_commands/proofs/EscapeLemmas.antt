-- The escaped delimiters of an expression.
use Rattle.sedck_commands.proofs.Common.{◌≡◌, ℕ, Some, Option, List, [], ◌∷◌, ◌++◌, drop, refl, ap, sym, ◌∙◌, append_assoc, IsTrue, option_or, DelimitedExpression, ExpressionText, is_misread, Bor, unread, Cursor, IsFirstEscape, as_written, escaped}

-- more bytes that are in the text as they are in the expression
pub escape_more : {d : ℕ} {whole text bytes rest behind : List ℕ} {escape : Option ℕ} (front all : List ℕ) → all ≡ bytes ++ front → rest ≡ front ++ behind
    → IsFirstEscape d whole text bytes rest escape → IsFirstEscape d whole text all behind escape
escape_more {bytes = bytes} {behind = behind} front all e f (as_written h) =
    as_written (h ∙ ap (λ t. bytes ++ t) f ∙ sym (append_assoc bytes front behind) ∙ ap (λ t. t ++ behind) (sym e))
escape_more {d} front all e f (escaped before after more h g k) =
    escaped before after (more ++ front) h (e ∙ ap (λ t. t ++ front) g ∙ append_assoc before (d ∷ more) front) k

-- one more escaped delimiter, which may be the first
pub escape_noted : {d : ℕ} {text bytes behind : List ℕ} {escape noted : Option ℕ} (rest : Cursor) (all : List ℕ) {whole : Bor (List ℕ)} → all ≡ bytes ++ d ∷ []
    → unread rest ≡ 92 ∷ d ∷ behind → noted ≡ option_or escape (Some rest.at) → rest.whole ≡ whole
    → IsFirstEscape d whole.now text bytes (unread rest) escape → IsFirstEscape d whole.now text all behind noted
escape_noted {bytes = bytes} {behind = behind} rest all e f n same (as_written h) =
    rw n (escaped bytes behind [] (h ∙ ap (λ r. bytes ++ r) f) e (ap (λ w. drop rest.at w.now) (sym same) ∙ f))
escape_noted {d} rest all e f n same (escaped before after more h g k) =
    rw n (escaped before after (more ++ d ∷ []) h (e ∙ ap (λ r. r ++ d ∷ []) g ∙ append_assoc before (d ∷ more) (d ∷ [])) k)

-- an expression as it may be written
pub written_expression : {d : ℕ} {whole text bytes rest : List ℕ} {escape : Option ℕ} → DelimitedExpression d text bytes rest
    → IsFirstEscape d whole text bytes (d ∷ rest) escape → ((place : ℕ) → escape ≡ Some place → IsTrue (is_misread d bytes) → ⊥)
    → ExpressionText d text bytes rest
written_expression x (as_written h) none = record { cut = x; alike = λ misread. h }
written_expression x (escaped {place = place} before after more h g k) none = record { cut = x; alike = λ misread. absurd (none place refl misread) }
