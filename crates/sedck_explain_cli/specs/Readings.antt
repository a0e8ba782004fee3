-- What the words of the command line ask for, word by word, this project's own. Of options with a value there are two forms:
-- `--name value` and `--name=value`.
use Rattle.std.specs.Prelude.{◌==◌, ◌||◌, ℕ, Bool, true, false, List, [], ◌∷◌, ◌++◌, map, fold, Option, Some, None, String, string_bytes, codes, if◌then◌else◌}
use Rattle.std.specs.List.{list_any}
use Rattle.std.specs.Str.{bytes_eq}
use Rattle.std.specs.declared.alloc.Global.{Global}

abbrev pub texts_of : List (String Global) → List (List ℕ)
texts_of words = map string_bytes words

-- what the next word is: an option or a path; the certificate's path; what is denied; what is allowed; the locale's
-- name; the format's name; the value of
-- an option on which the status doesn't depend; or a path, whatever it begins with
pub data Awaited : Type 0 where
  AnyWord : Awaited
  ItsCertificate : Awaited
  ItsDenied : Awaited
  ItsAllowed : Awaited
  ItsLocale : Awaited
  ItsFormat : Awaited
  OtherValue : Awaited
  OnlyPaths : Awaited

-- what the words so far ask for
pub record Asked : Type 0 where
  pub certificate : Option (List ℕ)
  pub denied : List (List ℕ)
  pub allowed : List (List ℕ)
  pub locale : Option (List ℕ)
  pub format : Option (List ℕ)
  pub sed : Bool
  pub calls : Bool
  pub mends : Bool
  pub paths : List (List ℕ)
  pub next : Awaited

-- the word begins with a hyphen, and isn't just one
abbrev pub is_option : List ℕ → Bool
is_option [] = false
is_option (b ∷ []) = false
is_option (b ∷ c ∷ rest) = b == 45

-- what follows the prefix, if the text begins with it
abbrev pub behind : List ℕ → List ℕ → Option (List ℕ)
behind [] text = Some text
behind (b ∷ prefix) [] = None
behind (b ∷ prefix) (c ∷ text) = if b == c then behind prefix text else None

-- an option on which the status doesn't depend, with a value
abbrev pub takes_value : List ℕ → Bool
takes_value word =
    bytes_eq word (codes "--level") || (bytes_eq word (codes "--stdin-filename") || (bytes_eq word (codes "--as")
    || (bytes_eq word (codes "--assume") || (bytes_eq word (codes "--at") || bytes_eq word (codes "--assume-set")))))

-- a word with no value in it
abbrev pub after_word : Asked → List ℕ → Asked
after_word a word =
    if bytes_eq word (codes "--cert") then record a { next = ItsCertificate }
    else if bytes_eq word (codes "--deny") then record a { next = ItsDenied }
    else if bytes_eq word (codes "--allow") then record a { next = ItsAllowed }
    else if bytes_eq word (codes "--locale") then record a { next = ItsLocale }
    else if bytes_eq word (codes "--format") then record a { next = ItsFormat }
    else if bytes_eq word (codes "--sed") then record a { sed = true }
    else if bytes_eq word (codes "--calls") then record a { calls = true }
    else if bytes_eq word (codes "--mend") then record a { mends = true }
    else if bytes_eq word (codes "--") then record a { next = OnlyPaths }
    else if takes_value word then record a { next = OtherValue }
    else if is_option word then a
    else record a { paths = a.paths ++ word ∷ [] }

abbrev pub or_format : Asked → List ℕ → Option (List ℕ) → Asked
or_format a word None = after_word a word
or_format a word (Some name) = record a { format = Some name }

abbrev pub or_locale : Asked → List ℕ → Option (List ℕ) → Asked
or_locale a word None = or_format a word (behind (codes "--format=") word)
or_locale a word (Some name) = record a { locale = Some name }

abbrev pub or_allowed : Asked → List ℕ → Option (List ℕ) → Asked
or_allowed a word None = or_locale a word (behind (codes "--locale=") word)
or_allowed a word (Some names) = record a { allowed = a.allowed ++ names ∷ [] }

abbrev pub or_denied : Asked → List ℕ → Option (List ℕ) → Asked
or_denied a word None = or_allowed a word (behind (codes "--allow=") word)
or_denied a word (Some names) = record a { denied = a.denied ++ names ∷ [] }

abbrev pub or_certificate : Asked → List ℕ → Option (List ℕ) → Asked
or_certificate a word None = or_denied a word (behind (codes "--deny=") word)
or_certificate a word (Some path) = record a { certificate = Some path }

-- a word that is no option's value
abbrev pub after_any : Asked → List ℕ → Asked
after_any a word = or_certificate a word (behind (codes "--cert=") word)

abbrev pub after_next : Awaited → Asked → List ℕ → Asked
after_next AnyWord a word = after_any a word
after_next ItsCertificate a word = record a { certificate = Some word; next = AnyWord }
after_next ItsDenied a word = record a { denied = a.denied ++ word ∷ []; next = AnyWord }
after_next ItsAllowed a word = record a { allowed = a.allowed ++ word ∷ []; next = AnyWord }
after_next ItsLocale a word = record a { locale = Some word; next = AnyWord }
after_next ItsFormat a word = record a { format = Some word; next = AnyWord }
after_next OtherValue a word = record a { next = AnyWord }
after_next OnlyPaths a word = record a { paths = a.paths ++ word ∷ [] }

-- one word more
abbrev pub after : Asked → List ℕ → Asked
after a word = after_next a.next a word

abbrev pub nothing_asked : Asked
nothing_asked = record { certificate = None; denied = []; allowed = []; locale = None; format = None; sed = false; calls = false; mends = false; paths = []; next = AnyWord }

-- all words
abbrev pub read : List (List ℕ) → Asked
read words = fold after nothing_asked words

-- ---- Names with commas between

abbrev pub pieces : List ℕ → List ℕ → List (List ℕ)
pieces piece [] = piece ∷ []
pieces piece (b ∷ text) = if b == 44 then piece ∷ pieces [] text else pieces (piece ++ b ∷ []) text

-- the name is one of them
abbrev pub is_named : List ℕ → List ℕ → Bool
is_named list name = list_any (λ piece. bytes_eq piece name) (pieces [] list)

-- the name is one of those of some of the lists
abbrev pub is_among : List (List ℕ) → List ℕ → Bool
is_among lists name = list_any (λ list. is_named list name) lists
