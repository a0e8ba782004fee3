-- What is read with something asked besides the grammar is read so with nothing asked.
use Rattle.sedck_commands.proofs.Common.{ℕ, Bool, List, Narrowings, Pattern, Place, Address, Part, Substitution, ExpressionTextIn, IsPatternIn, NameIn, FlagsIn, PlaceTextIn, AddressTextIn, WrittenVerb, Item, VerbTextIn, CommandTextIn, ItemsIn, nothing_asked}
use Rattle.sedck_commands.specs.Parts as p
use Rattle.sedck_commands.specs.Items as w

expression_read : {asks : Narrowings} {d : ℕ} {text e rest : List ℕ} → ExpressionTextIn asks d text e rest → ExpressionTextIn nothing_asked d text e rest
expression_read x = record { cut = x.cut; alike = tt }

pattern_read : {asks : Narrowings} {text : List ℕ} {q : Pattern} → IsPatternIn asks text q → IsPatternIn nothing_asked text q
pattern_read p.previous = p.previous
pattern_read (p.expression read) = p.expression (read.0, tt)

name_read : {asks : Narrowings} {text name rest : List ℕ} → NameIn asks text name rest → NameIn nothing_asked text name rest
name_read n = record { blanks = n.blanks; begins = n.begins; skipped = n.skipped; run = n.run; some = n.some; alike = tt }

flags_read : {asks : Narrowings} {q : Pattern} {ps : List Part} {text rest : List ℕ} {s : Substitution} → FlagsIn asks q ps text s rest
    → FlagsIn nothing_asked q ps text s rest
flags_read (p.none e m) = p.none e tt
flags_read (p.file f g) = p.file f (name_read g)
flags_read (p.global f x h) = p.global f (flags_read x) h
flags_read (p.print f x h) = p.print f (flags_read x) h
flags_read (p.number f x h) = p.number f (flags_read x) h

place_read : {asks : Narrowings} {text rest : List ℕ} {q : Place} → PlaceTextIn asks text q rest → PlaceTextIn nothing_asked text q rest
place_read (p.line n) = p.line n
place_read (p.last h) = p.last h
place_read (p.context h x y) = p.context h (expression_read x) (pattern_read y)
place_read (p.custom h d x y) = p.custom h d (expression_read x) (pattern_read y)

address_read : {asks : Narrowings} {text rest : List ℕ} {a : Address} → AddressTextIn asks text a rest → AddressTextIn nothing_asked text a rest
address_read p.none = p.none
address_read (p.one x) = p.one (place_read x)
address_read (p.two x c h d y) = p.two (place_read x) c h d (place_read y)

verb_read : {asks : Narrowings} {text rest : List ℕ} {v : WrittenVerb} → VerbTextIn asks text v rest → VerbTextIn nothing_asked text v rest
verb_read (w.simple x e) = w.simple x e
verb_read (w.label h l n e) = w.label h l tt e
verb_read (w.jump h l n e brace) = w.jump h l tt e brace
verb_read (w.jump_to_end h n e brace) = w.jump_to_end h tt e brace
verb_read (w.opening h) = w.opening h
verb_read (w.append h l g) = w.append h l g
verb_read (w.change h l g) = w.change h l g
verb_read (w.insert h l g) = w.insert h l g
verb_read (w.read h n) = w.read h (name_read n)
verb_read (w.write h n) = w.write h (name_read n)
verb_read (w.substitute h d x y z g f) = w.substitute h d (expression_read x) (pattern_read y) z tt (flags_read f)
verb_read (w.transliterate h d x m y l e) = w.transliterate h d x tt y l e

command_read : {asks : Narrowings} {text rest : List ℕ} {a : Address} {m : Bool} {v : WrittenVerb} → CommandTextIn asks text a m v rest
    → CommandTextIn nothing_asked text a m v rest
command_read c = record {
  behind = c.behind;
  addresses = address_read c.addresses;
  marks = c.marks;
  begins = c.begins;
  run = c.run;
  mark = c.mark;
  verbs = verb_read c.verbs;
  taken = tt;
}

pub items_read : {asks : Narrowings} {text : List ℕ} {items : List Item} → ItemsIn asks text items → ItemsIn nothing_asked text items
items_read (w.nothing l) = w.nothing l
items_read (w.comment l h n r x) = w.comment l h n tt (items_read x)
items_read (w.closing l h e x) = w.closing l h e (items_read x)
items_read (w.command l c x) = w.command l (command_read c) (items_read x)
