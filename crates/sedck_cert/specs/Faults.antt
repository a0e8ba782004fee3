-- Which fault a text that is no certificate's gets, by the rules of each version: that of the first line that isn't what is due there, after the lines before it.
use Rattle.std.specs.Prelude.{◌≡◌, ℕ, zero, suc, ◌+◌, ◌<◌, ◌≤◌, List, [], ◌∷◌, ◌++◌, length, Option, Some, None, ◌==◌, count_by, decimal, codes}
use Rattle.sedck_text.specs.Bytes.{newline}
use Rattle.sedck_script.specs.Names.{IsName, IsBefore}
use Rattle.sedck_cert.specs.Certificate.{nodes_in, AreWithin}
use Rattle.sedck_cert.specs.Text.{line, header, node_text, joined_lines, IsOneLine}
use Rattle.sedck_cert.specs.declared.versions.Version.{Version}
use Rattle.sedck_cert.specs.declared.reading.names.Files.{Files}
use Rattle.sedck_cert.specs.declared.reading.names.Files.TheVariants.{Reads, Writes}
use Rattle.sedck_cert.specs.declared.reading.CertFault.{CertFault}
use Rattle.sedck_cert.specs.declared.reading.CertFault.TheVariants.{BadHeader, BadCount, BadNode, BadNames, BadEnd, OutOfMemory}

-- what is due next
pub data Due : Type 0 where
  Header : Due
  Count : Due
  -- the line of this node, and how many nodes follow it
  Node : ℕ → ℕ → Due
  -- the count of a list, where the names so far have this many bytes with their newlines
  Names : Files → ℕ → Due
  -- a name of the list, how many follow it, the name before, if there is one, and the bytes so far
  Name : Files → ℕ → List (List ℕ) → ℕ → Due
  Last : Due
  Nothing : Due

-- a later name after the one before, if there is one
abbrev pub ComesAfter : List (List ℕ) → List ℕ → Type 0
ComesAfter [] name = Unit {0}
ComesAfter (before ∷ more) name = IsBefore before name

-- after a list comes the other one, or the end
abbrev pub after_list : Files → ℕ → Due
after_list Reads size = Names Writes size
after_list Writes size = Last

-- where so many names are left, after the one before, if there is one
abbrev pub names_due : Files → ℕ → List (List ℕ) → ℕ → Due
names_due files zero before size = after_list files size
names_due files (suc left) before size = Name files left before size

-- where so many nodes are left, from this one on
abbrev pub nodes_due : ℕ → ℕ → Due
nodes_due node zero = Names Reads 0
nodes_due node (suc left) = Node node left

abbrev pub list_word : Files → List ℕ
list_word Reads = codes "read "
list_word Writes = codes "write "

-- the line, without its newline, is what is due, and what is due next
abbrev pub IsDue : Version → Due → List ℕ → Due → Type 0
IsDue v Header text next = (text ≡ header v) × (next ≡ Count)
IsDue v Count text next = (n : ℕ) × (n ≤ 4095) × (text ≡ codes "commands " ++ decimal n) × (next ≡ nodes_due 0 (nodes_in v n))
IsDue v (Node node left) text next =
    (ranks : Option (ℕ × ℕ)) × AreWithin ranks × (text ≡ node_text v node ranks) × (next ≡ nodes_due (suc node) left)
IsDue v (Names files size) text next = (n : ℕ) × (n ≤ 4095) × (text ≡ list_word files ++ decimal n) × (next ≡ names_due files n [] size)
IsDue v (Name files left before size) text next =
    IsName text × ComesAfter before text × (size + length text + 1 ≤ 1048576) × (next ≡ names_due files left (text ∷ []) (size + length text + 1))
IsDue v Last text next = (text ≡ codes "end") × (next ≡ Nothing)
IsDue v Nothing text next = ⊥

-- these lines are what is due, one after another
abbrev pub AreDue : Version → Due → List (List ℕ) → Due → Type 0
AreDue v due [] next = next ≡ due
AreDue v due (text ∷ more) next = IsOneLine text × (mid : Due) × IsDue v due text mid × AreDue v mid more next

-- the rest of the text doesn't begin with a line that is due
abbrev pub IsWrong : Version → Due → List ℕ → Type 0
IsWrong v due rest = (text more : List ℕ) (next : Due) → rest ≡ line text ++ more → IsOneLine text → ¬ IsDue v due text next

-- the fault at a line
abbrev pub fault_at : Due → ℕ → CertFault
fault_at Header n = BadHeader n
fault_at Count n = BadCount n
fault_at (Node node left) n = BadNode n
fault_at (Names files size) n = BadNames n
fault_at (Name files left before size) n = BadNames n
fault_at Last n = BadEnd n
fault_at Nothing n = BadEnd n

-- where nothing is due, the text ends
abbrev pub IsRefused : Version → Due → List ℕ → Type 0
IsRefused v Nothing rest = 0 < length rest
IsRefused v due rest = IsWrong v due rest

-- the line of a fault, if it has one
abbrev pub line_of : CertFault → Option ℕ
line_of (BadHeader n) = Some n
line_of (BadCount n) = Some n
line_of (BadNode n) = Some n
line_of (BadNames n) = Some n
line_of (BadEnd n) = Some n
line_of OutOfMemory = None

-- the line is one of the text, or the one after its last newline
abbrev pub IsLineOf : List ℕ → ℕ → Type 0
IsLineOf text n = (1 ≤ n) × (n ≤ count_by (λ b. b == newline) text + 1)

-- the fault of a text that is no certificate's in this version
pub record IsFaultOf (v : Version) (text : List ℕ) (fault : CertFault) : Type 0 where
  pub before : List (List ℕ)
  pub rest : List ℕ
  pub due : Due
  pub is_text : text ≡ joined_lines before ++ rest
  pub are_due : AreDue v Header before due
  pub is_refused : IsRefused v due rest
  pub is_fault : fault ≡ fault_at due (suc (length before))
