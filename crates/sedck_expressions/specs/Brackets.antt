-- Bracket lists (XBD 9.3.5).
use Rattle.std.specs.Prelude.{◌≡◌, ◌≢◌, ℕ, ◌≤◌, ◌==◌, Bool, true, false, not, ◌&&◌, ◌||◌, nat_eq, nat_le, IsTrue, if◌then◌else◌, List, [], ◌∷◌, ◌++◌, codes, ◌⊎◌, Contains}
use Rattle.std.specs.List.{list_any, ends_with}
use Rattle.sedck_text.specs.Bytes.{tab, newline, carriage_return, backslash, ascii}
use Rattle.sedck_text.specs.Bytes as bytes
use Rattle.sedck_text.specs.Text.{begins}
use Rattle.sedck_text.specs.Classes.{is_digit, is_letter}
use Rattle.sedck_expressions.specs.Tree.{bytes_where}

-- the byte is from a to z, both included
abbrev pub is_from : ℕ → ℕ → ℕ → Bool
is_from a z b = nat_le a b && nat_le b z

-- the character classes of the POSIX locale: the name of each, and its bytes (XBD 7.3.1)
abbrev pub classes : List (List ℕ × (ℕ → Bool))
classes =
    (codes "upper", is_from (ascii "A") (ascii "Z"))
    ∷ (codes "lower", is_from (ascii "a") (ascii "z"))
    ∷ (codes "alpha", is_letter)
    ∷ (codes "digit", is_digit)
    ∷ (codes "alnum", λ b. is_digit b || is_from (ascii "A") (ascii "Z") b || is_from (ascii "a") (ascii "z") b)
    ∷ (codes "xdigit", λ b. is_digit b || is_from (ascii "A") (ascii "F") b || is_from (ascii "a") (ascii "f") b)
    ∷ (codes "space", λ b. is_from tab carriage_return b || (b == bytes.space))
    ∷ (codes "blank", λ b. (b == tab) || (b == bytes.space))
    ∷ (codes "punct", λ b. is_from (ascii "!") (ascii "~") b && not (is_letter b || is_digit b))
    ∷ (codes "graph", is_from (ascii "!") (ascii "~"))
    ∷ (codes "print", is_from bytes.space (ascii "~"))
    ∷ (codes "cntrl", λ b. is_from 0 31 b || (b == 127))
    ∷ []

-- an element of a bracket list: one byte, the bytes from the first to the second, or those of a class
pub data Element : Type 0 where
  One : ℕ → Element
  Range : ℕ → ℕ → Element
  Members : List ℕ × (ℕ → Bool) → Element

abbrev pub in_element : ℕ → Element → Bool
in_element b (One c) = b == c
in_element b (Range a z) = is_from a z b
in_element b (Members class) = class.1 b

-- A byte that stands for itself before the text next: a bare `[` begins neither `[:`, `[.` nor `[=`, and a bare `\` neither `\n` nor `\\`, nor (ours) `\c`,
-- `\d`, `\o` or `\x`, since GNU sed reads `\cX`, `\dNNN`, `\oNNN` and `\xHH` as a byte before it looks for the end of the list.
abbrev pub is_bare : ℕ → List ℕ → Bool
is_bare c next = not (((c == ascii "[") && begins ":.=" next) || ((c == backslash) && begins "n\\cdox" next))

-- The text writes one byte, before the text next: itself, a collating symbol `[.c.]`, or, as in XCU sed, `\n` or `\\`. No
-- symbol is `[...]` (ours): GNU sed doesn't see its end when it looks for the delimiter after the list.
abbrev pub WritesByte : List ℕ → List ℕ → ℕ → Type 0
WritesByte text next c =
    ((text ≡ c ∷ []) × IsTrue (is_bare c next))
    ⊎ (((text ≡ codes "\\n") × (c ≡ newline))
    ⊎ (((text ≡ codes "\\\\") × (c ≡ backslash))
    ⊎ ((text ≡ codes "[." ++ c ∷ codes ".]") × (c ≢ ascii "."))))

-- the text begins with a `-` and another byte, so that an element before it would begin a range
abbrev pub begins_range : List ℕ → Bool
begins_range (c ∷ d ∷ _) = c == ascii "-"
begins_range _ = false

-- a bare `]` is first, and a bare `-` first or last
abbrev pub IsInPlace : Bool → List ℕ → List ℕ → Type 0
IsInPlace first text next = (text ≡ codes "]" → IsTrue first) × (text ≡ codes "-" → IsTrue first ⊎ (next ≡ []))

-- The text writes the element before the text next; the flag says that it is first in its list. No equivalence class is `[===]`, for the same reason (ours).
abbrev pub WritesElement : Bool → List ℕ → List ℕ → Element → Type 0
WritesElement first text next (One c) =
    (WritesByte text next c ⊎ ((text ≡ codes "[=" ++ c ∷ codes "=]") × (c ≢ ascii "="))) × IsInPlace first text next × (begins_range next ≡ false)
WritesElement first text next (Range a z) =
    (u v : List ℕ) × (text ≡ u ++ codes "-" ++ v) × IsInPlace first u (codes "-" ++ v ++ next)
    × WritesByte u (codes "-" ++ v ++ next) a × WritesByte v next z × (v ≢ codes "]") × (a ≤ z)
WritesElement first text next (Members class) =
    Contains classes class × (text ≡ codes "[:" ++ class.0 ++ codes ":]") × (begins_range next ≡ false)

-- the text writes the elements, one after another
abbrev pub WritesElements : Bool → List ℕ → List Element → Type 0
WritesElements first text [] = text ≡ []
WritesElements first text (e ∷ es) = (u v : List ℕ) × (text ≡ u ++ v) × WritesElement first u v e × WritesElements false v es

-- a class, an equivalence class or a collating symbol is in the text of a list
abbrev pub has_symbol : List ℕ → Bool
has_symbol [] = false
has_symbol (c ∷ text) = ((c == ascii "[") && begins ":.=" text) || has_symbol text

-- BusyBox takes a list for closed after a class or a symbol, and a `[` or `[^` that is last in it for the beginning of another. Such a list is refused (ours).
abbrev pub is_mistakable : List ℕ → Bool
is_mistakable text = (ends_with nat_eq text (codes "[") || ends_with nat_eq text (codes "[^")) && has_symbol text

-- whether a byte is a member of the list, or of its complement
abbrev pub is_listed : Bool → List Element → ℕ → Bool
is_listed complement es b = if complement then not (list_any (in_element b) es) else list_any (in_element b) es

-- the text is a bracket list of these bytes; a `^` after the bracket makes the complement
pub record IsBracketList (text bytes : List ℕ) : Type 0 where
  pub complement : Bool
  pub inside : List ℕ
  pub elements : List Element
  pub written : text ≡ (if complement then codes "[^" else codes "[") ++ inside ++ codes "]"
  pub sign : complement ≡ false → begins "^" inside ≡ false
  pub some : elements ≢ []
  pub clear : is_mistakable inside ≡ false
  pub spelled : WritesElements true inside elements
  pub set : bytes ≡ bytes_where (is_listed complement elements)
