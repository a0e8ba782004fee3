-- How the code's values relate to what is read of a bracket list.
use Rattle.std.specs.Prelude.{◌≡◌, ℕ, ◌-◌, ◌<◌, ◌≤◌, not, Bool, false, List, [], ◌++◌, codes, length, drop, nat_eq, slice_index_or, if◌then◌else◌, Option, Some, None, Result, Ok, Err}
use Rattle.std.specs.List.{list_any, starts_with}
use Rattle.sedck_expressions.specs.Brackets as brackets
use Rattle.sedck_expressions.specs.Brackets.{classes, in_element}
use Rattle.sedck_expressions.specs.Faults.{HasOneAt}
use Rattle.sedck_expressions.specs.Reading.{Stop}
use Rattle.sedck_expressions.specs.Private.Sets.{HasJust}
use Rattle.sedck_expressions.specs.declared.brackets.elements.Class.{Class}
use Rattle.sedck_expressions.specs.declared.brackets.elements.Class.TheVariants.{Upper, Lower, Alpha, Digit, Alnum, Xdigit, Space, Blank, Punct, Graph, Print, Cntrl}
use Rattle.sedck_expressions.specs.declared.brackets.elements.Element.{Element}
use Rattle.sedck_expressions.specs.declared.brackets.symbols.Flaw.{Flaw}
use Rattle.sedck_expressions.specs.declared.brackets.symbols.Flaw.TheVariants.{Escape}
use Rattle.sedck_expressions.specs.declared.brackets.elements.Element.TheVariants.{One, Range, Members}

-- the row of the table
abbrev pub row_at : ℕ → List ℕ × (ℕ → Bool)
row_at i = slice_index_or classes i ([], λ b. false)

abbrev pub class_of : Class → List ℕ × (ℕ → Bool)
class_of Upper = row_at 0
class_of Lower = row_at 1
class_of Alpha = row_at 2
class_of Digit = row_at 3
class_of Alnum = row_at 4
class_of Xdigit = row_at 5
class_of Space = row_at 6
class_of Blank = row_at 7
class_of Punct = row_at 8
class_of Graph = row_at 9
class_of Print = row_at 10
class_of Cntrl = row_at 11

abbrev pub element_of : Element → brackets.Element
element_of (One c) = brackets.One c
element_of (Range a z) = brackets.Range a z
element_of (Members class) = brackets.Members (class_of class)

-- what a class's name and the `:]` after it are
abbrev pub closed_name : List ℕ × (ℕ → Bool) → List ℕ
closed_name class = class.0 ++ codes ":]"

-- what follows the closed name, if it is at the start
abbrev pub behind_name : List ℕ × (ℕ → Bool) → List ℕ → Option (List ℕ)
behind_name class text = if starts_with nat_eq text (closed_name class) then Some (drop (length (closed_name class)) text) else None

-- what a function returned, seen by view, is what is read
abbrev pub Reads : {X Y : Type 0} → (X → Y) → Result X Flaw → Result Y Flaw → Type 0
Reads view (Ok x) read = read ≡ Ok (view x)
Reads view (Err flaw) read = read ≡ Err flaw

-- so many bytes are read of the text
abbrev pub IsTaken : ℕ → List ℕ → Type 0
IsTaken count text = (0 < count) × (count ≤ length text)

-- an element is flawed, and not by an escape
abbrev pub HasNoEscape : Flaw → Type 0
HasNoEscape (Escape left) = ⊥
HasNoEscape _ = Unit {0}

-- a refused escape is at a backslash of the text
abbrev pub IsFlawIn : List ℕ → Flaw → Type 0
IsFlawIn text (Escape left) = (left ≤ length text) × HasOneAt text (length text - left) "\\"
IsFlawIn text _ = Unit {0}

-- a byte of one of the elements
abbrev pub is_of : List brackets.Element → ℕ → Bool
is_of es b = list_any (in_element b) es

-- elements are read, and the set has just their bytes
abbrev pub HasElements : List ℕ → List ℕ → Result (List brackets.Element × List ℕ) Stop → Type 0
HasElements words rest read = (es : List brackets.Element) × (read ≡ Ok (es, rest)) × HasJust words (is_of es)

-- a test turned round, if the flag says so
abbrev pub signed : Bool → (ℕ → Bool) → ℕ → Bool
signed complement test b = if complement then not (test b) else test b

-- a `^` after the bracket makes the complement
abbrev pub opening : Bool → List ℕ
opening complement = if complement then codes "[^" else codes "["
