-- What a sed makes of the words of its call, one after another. Options, their arguments and operands are as POSIX.1-2024 has them
-- (XBD 12.1 and 12.2); that an option may follow an operand, that names may be long and be abbreviated, and that `-i` takes the rest of
-- its own word alone, is of GNU's sed.
use Rattle.std.specs.Prelude.{ℕ, suc, ◌+◌, ◌-◌, ◌==◌, not, Bool, true, false, if◌then◌else◌, nat_lt, List, [], ◌∷◌, ◌++◌, length, take, Option, Some, None}
use Rattle.std.specs.List.{prefix_len}
use Rattle.sedck_call.specs.Options.{taken_by, short_option, long_option}
use Rattle.sedck_call.specs.declared.option.CallOption.{CallOption}
use Rattle.sedck_call.specs.declared.option.Taken.{Taken}
use Rattle.sedck_call.specs.declared.option.Taken.TheVariants as taken
use Rattle.sedck_call.specs.declared.given.Given.{Given}
use Rattle.sedck_call.specs.declared.given.Given.TheVariants.{Alone, With, Operand}
use Rattle.sedck_call.specs.declared.given.Origin.{Origin}
use Rattle.sedck_call.specs.declared.given.Awaited.{Awaited}
use Rattle.sedck_call.specs.declared.given.Awaited.TheVariants as awaited

abbrev pub hyphen : ℕ
hyphen = 45

abbrev pub is_equals : ℕ → Bool
is_equals b = b == 61

-- what the words so far have given, and what the next word may be
pub record Reading : Type 0 where
  pub given : List Given
  pub awaited : Awaited

-- with this after what was given, and this awaited
abbrev pub with_given : Reading → List Given → Awaited → Reading
with_given r given awaited = record { given = r.given ++ given; awaited = awaited }

-- the end of a word, from this byte on
abbrev pub end_of : ℕ → ℕ → Origin
end_of word from = record { word = word; from = from }

-- An option with nothing after it in its word, the word of this number; then one with something after it, from this byte on. None:
-- no sed takes it.
abbrev pub bare : Reading → ℕ → CallOption → Taken → Option Reading
bare r n o taken.Nothing = Some (with_given r (Alone o n ∷ []) awaited.Any)
bare r n o taken.Suffix = Some (with_given r (Alone o n ∷ []) awaited.Any)
bare r n o taken.Argument = Some (with_given r [] (awaited.Argument o))

abbrev pub attached : Reading → ℕ → ℕ → CallOption → Taken → Option Reading
attached r n from o taken.Nothing = None
attached r n from o taken.Suffix = Some (with_given r (With o (end_of n from) ∷ []) awaited.Any)
attached r n from o taken.Argument = Some (with_given r (With o (end_of n from) ∷ []) awaited.Any)

-- ---- Letters: an option each, up to one that takes the rest

abbrev pub with_rest : Reading → ℕ → ℕ → CallOption → List ℕ → Option Reading
with_rest r n from o [] = bare r n o (taken_by o)
with_rest r n from o rest = attached r n from o (taken_by o)

abbrev pub letter : Reading → ℕ → ℕ → List ℕ → (Reading → Option Reading) → CallOption → Taken → Option Reading
letter r n from rest more o taken.Nothing = more (with_given r (Alone o n ∷ []) awaited.Any)
letter r n from rest more o _ = with_rest r n from o rest

abbrev pub known_letter : Reading → ℕ → ℕ → List ℕ → (Reading → Option Reading) → Option CallOption → Option Reading
known_letter r n from rest more None = None
known_letter r n from rest more (Some o) = letter r n from rest more o (taken_by o)

-- the letters of a word from this byte on
abbrev pub letters : Reading → ℕ → ℕ → List ℕ → Option Reading
letters r n from [] = Some (with_given r [] awaited.Any)
letters r n from (b ∷ rest) = known_letter r n (suc from) rest (λ next. letters next n (suc from) rest) (short_option b)

-- ---- Long names: what is after `=` is the argument

abbrev pub name_length : List ℕ → ℕ
name_length text = prefix_len (λ b. not (is_equals b)) text

abbrev pub known_name : Reading → ℕ → List ℕ → Option CallOption → Option Reading
known_name r n text None = None
known_name r n text (Some o) =
    if nat_lt (name_length text) (length text) then attached r n (name_length text + 3) o (taken_by o) else bare r n o (taken_by o)

-- the text after `--`; without one all other words are operands
abbrev pub long : Reading → ℕ → List ℕ → Option Reading
long r n [] = Some (with_given r [] awaited.Operand)
long r n text = known_name r n text (long_option (take (name_length text) text))

-- ---- Words

abbrev pub free_word : Reading → ℕ → List ℕ → Option Reading
free_word r n (a ∷ b ∷ rest) =
    if a == hyphen then (if b == hyphen then long r n rest else letters r n 1 (b ∷ rest)) else Some (with_given r (Operand n ∷ []) awaited.Any)
free_word r n _ = Some (with_given r (Operand n ∷ []) awaited.Any)

abbrev pub word_by : Reading → Awaited → ℕ → List ℕ → Option Reading
word_by r awaited.Any n word = free_word r n word
word_by r (awaited.Argument o) n word = Some (with_given r (With o (end_of n 0) ∷ []) awaited.Any)
word_by r awaited.Operand n word = Some (with_given r (Operand n ∷ []) awaited.Operand)

-- the reading after the word of this number
abbrev pub after_word : Reading → ℕ → List ℕ → Option Reading
after_word r n word = word_by r r.awaited n word

-- what comes of all words
pub data Outcome : Type 0 where
  Read : List Given → Outcome
  -- no sed takes the word of this number, counted from 0
  Refused : ℕ → Outcome

abbrev pub ending : Reading → Awaited → ℕ → Outcome
ending r (awaited.Argument o) n = Refused (n - 1)
ending r _ n = Read r.given

abbrev pub going_on : ℕ → (Reading → Outcome) → Option Reading → Outcome
going_on n more None = Refused n
going_on n more (Some r) = more r

-- the words from that of this number on
abbrev pub after_words : Reading → ℕ → List (List ℕ) → Outcome
after_words r n [] = ending r r.awaited n
after_words r n (word ∷ words) = going_on n (λ next. after_words next (suc n) words) (after_word r n word)

abbrev pub start : Reading
start = record { given = []; awaited = awaited.Any }

abbrev pub outcome_of : List (List ℕ) → Outcome
outcome_of words = after_words start 0 words
