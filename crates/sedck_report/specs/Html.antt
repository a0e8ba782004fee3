-- Text in HTML, byte by byte.
use Rattle.std.specs.Prelude.{◌≢◌, ℕ, ◌==◌, if◌then◌else◌, List, [], ◌∷◌, ◌++◌, codes}

-- the byte, or the entity of a byte that HTML gives a meaning: `<`, `>`, `&` and `"`
abbrev pub html_byte : ℕ → List ℕ
html_byte b =
    if b == 60 then codes "&lt;"
    else if b == 62 then codes "&gt;"
    else if b == 38 then codes "&amp;"
    else if b == 34 then codes "&quot;"
    else b ∷ []

abbrev pub html_text : List ℕ → List ℕ
html_text [] = []
html_text (b ∷ more) = html_byte b ++ html_text more

-- no byte that begins or ends a tag, or ends a quoted attribute
abbrev pub IsPlain : ℕ → Type 0
IsPlain b = (b ≢ 60) × (b ≢ 62) × (b ≢ 34)
