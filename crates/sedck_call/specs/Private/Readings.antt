-- What functions promise each other of what words give.
use Rattle.std.specs.Prelude.{◌≡◌, ℕ, List, Option}
use Rattle.std.specs.Option.{option_map}
use Rattle.sedck_call.specs.Words.{Reading, Outcome, Read, Refused}
use Rattle.sedck_call.specs.declared.given.Given.{Given}
use Rattle.sedck_call.specs.declared.given.Awaited.{Awaited}
use Rattle.sedck_call.specs.declared.call.CallFault.{CallFault}
use Rattle.sedck_call.specs.declared.call.CallFault.TheVariants as fault

abbrev pub reading_of : List Given → Awaited → Reading
reading_of given awaited = record { given = given; awaited = awaited }

-- what was given, with what is awaited; none where no sed takes the word
abbrev pub answered : List Given → Option Awaited → Option Reading
answered given next = option_map (λ awaited. reading_of given awaited) next

-- why no sed takes the words; a script is only looked for later
abbrev pub IsWordFault : Outcome → CallFault → Type 0
IsWordFault outcome (fault.BadWord n) = outcome ≡ Refused n
IsWordFault outcome fault.NoScript = ⊥
IsWordFault outcome fault.OutOfMemory = Unit {0}
