-- A text that spells a script is read as this script, and as no other.
use Rattle.sedck_script.proofs.Common.{◌≡◌, ℕ, List, Narrowings, Command, Program, Item, ResolvesIn, done, known, jump, opening, closing, SpellsIn, nothing_asked, IsReadAs}
use Rattle.sedck_commands.proofs.NothingAsked.{items_read}
use Rattle.sedck_script.proofs.UniqueScripts.{whole_one}

resolves_read : {asks : Narrowings} {A cs : List Command} {blocks : List ℕ} {place : ℕ} {items : List Item} → ResolvesIn asks A blocks place items cs
    → ResolvesIn nothing_asked A blocks place items cs
resolves_read done = done
resolves_read (known r) = known (resolves_read r)
resolves_read (jump t may h r) = jump t tt h (resolves_read r)
resolves_read (opening h r) = opening h (resolves_read r)
resolves_read (closing h r) = closing h (resolves_read r)

pub spelled_read : {asks : Narrowings} {text : List ℕ} {p : Program} → SpellsIn asks text p → IsReadAs text p
spelled_read s = record {
  allowed = tt;
  items = s.items;
  spelled = items_read s.spelled;
  commands = record {
    resolved = resolves_read s.commands.resolved;
    labels = s.commands.labels;
    allowed = tt;
  };
  quiet = s.quiet;
}

pub read_once : {text : List ℕ} {p : Program} → IsReadAs text p → (other : Program) → IsReadAs text other → other ≡ p
read_once s other t = whole_one t s
