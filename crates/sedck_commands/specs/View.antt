-- What a user sees of the code's types: no pointers and no capacities.
use Rattle.std.specs.Prelude.{map}
use Rattle.std.specs.Option.{option_copied}
use Rattle.sedck_commands.specs.Program as clean
pub use Rattle.sedck_commands.specs.ReplacementView.{pattern_of, part_of}
use Rattle.sedck_commands.specs.declared.types.Place.{Place}
use Rattle.sedck_commands.specs.declared.types.Place.TheVariants as place
use Rattle.sedck_commands.specs.declared.types.Address.{Address}
use Rattle.sedck_commands.specs.declared.types.Address.TheVariants as address
use Rattle.sedck_commands.specs.declared.types.Substitution.{Substitution}
use Rattle.sedck_commands.specs.declared.types.Verb.{Verb}
use Rattle.sedck_commands.specs.declared.types.Verb.TheVariants as verb

abbrev pub place_of : Place → clean.Place
place_of (place.Line n) = clean.Line n
place_of place.Last = clean.Last
place_of (place.Context p) = clean.Context (pattern_of p)

abbrev pub address_of : Address → clean.Address
address_of address.None = clean.NoAddress
address_of (address.One p) = clean.One (place_of p)
address_of (address.Two p q) = clean.Two (place_of p) (place_of q)

abbrev pub substitution_of : Substitution → clean.Substitution
substitution_of s = record {
  pattern = pattern_of s.pattern;
  parts = map part_of s.parts.items;
  global = s.global;
  print = s.print;
  nth = s.nth;
  file = option_copied s.file;
}

abbrev pub verb_of : Verb → clean.Verb
verb_of (verb.Label t) = clean.Label t.now
verb_of (verb.Branch n) = clean.Branch n
verb_of (verb.Test n) = clean.Test n
verb_of (verb.Block n) = clean.Block n
verb_of (verb.Append t) = clean.Append t.now
verb_of (verb.Change t) = clean.Change t.now
verb_of (verb.Insert t) = clean.Insert t.now
verb_of (verb.Read t) = clean.Read t.now
verb_of (verb.Write t) = clean.Write t.now
verb_of (verb.Substitute s) = clean.Substitute (substitution_of s)
verb_of (verb.Transliterate f t) = clean.Transliterate f.items t.items
verb_of verb.Delete = clean.Delete
verb_of verb.DeleteFirstLine = clean.DeleteFirstLine
verb_of verb.Get = clean.Get
verb_of verb.GetAppend = clean.GetAppend
verb_of verb.Hold = clean.Hold
verb_of verb.HoldAppend = clean.HoldAppend
verb_of verb.List = clean.List'
verb_of verb.Next = clean.Next
verb_of verb.NextAppend = clean.NextAppend
verb_of verb.Print = clean.Print
verb_of verb.PrintFirstLine = clean.PrintFirstLine
verb_of verb.Quit = clean.Quit
verb_of verb.Exchange = clean.Exchange
verb_of verb.LineNumber = clean.LineNumber
