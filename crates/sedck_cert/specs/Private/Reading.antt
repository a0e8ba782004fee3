-- Words for the reader alone.
use Rattle.std.specs.Prelude.{◌≡◌, ℕ, ◌+◌, ◌≤◌, List, [], ◌∷◌, ◌++◌, length, Option, None, Some, decimal, codes}
use Rattle.std.specs.Borrow.{Bor}
use Rattle.sedck_text.specs.Bytes.{newline}
use Rattle.sedck_script.specs.Names.{IsName}
use Rattle.sedck_cert.specs.Private.Cuts.{IsCut}
use Rattle.sedck_cert.specs.Certificate.{Certificate}
use Rattle.sedck_cert.specs.Text.{header, node_texts, joined_lines}
use Rattle.sedck_cert.specs.declared.versions.Version.{Version}
use Rattle.sedck_cert.specs.Faults.{Due, AreDue, IsRefused, ComesAfter, list_word, fault_at}
use Rattle.sedck_cert.specs.declared.reading.names.Files.{Files}
use Rattle.sedck_cert.specs.declared.reading.names.Files.TheVariants.{Reads, Writes}
use Rattle.sedck_cert.specs.declared.reading.lines.Lines.{Lines}
use Rattle.sedck_cert.specs.declared.reading.CertFault.{CertFault}

-- the line is next
pub record IsNext (old : Lines) (text : List ℕ) (new : Lines) : Type 0 where
  pub cut : IsCut newline old.rest.now text new.rest.now
  pub number : new.number ≡ old.number + 1

-- these lines are next and are what is due, and what is due after them
pub record Leads (v : Version) (due : Due) (old : Lines) (texts : List (List ℕ)) (new : Lines) (next : Due) : Type 0 where
  pub is_text : old.rest.now ≡ joined_lines texts ++ new.rest.now
  pub number : new.number ≡ old.number + length texts
  pub are_due : AreDue v due texts next

-- after lines that are due comes one that isn't, and this is its fault
pub record Stops (v : Version) (due : Due) (old : Lines) (fault : CertFault) : Type 0 where
  pub before : List (List ℕ)
  pub rest : List ℕ
  pub wrong : Due
  pub is_text : old.rest.now ≡ joined_lines before ++ rest
  pub are_due : AreDue v due before wrong
  pub is_refused : IsRefused v wrong rest
  pub is_fault : fault ≡ fault_at wrong (old.number + length before)

-- the lines of a list
abbrev pub list_texts : Files → List (List ℕ) → List (List ℕ)
list_texts files names = (list_word files ++ decimal (length names)) ∷ names

-- the name before, if there is one
abbrev pub one_before : Option (Bor (List ℕ)) → List (List ℕ)
one_before None = []
one_before (Some name) = name.now ∷ []

-- the lines of a certificate's text
abbrev pub certificate_lines : Version → Certificate → List (List ℕ)
certificate_lines v c =
    header v ∷ (codes "commands " ++ decimal c.commands) ∷ (node_texts v 0 c.ranks ++ (list_texts Reads c.reads ++ (list_texts Writes c.writes ++ codes "end" ∷ [])))

-- sorted names after the one before, if there is one, and within the limit on bytes
abbrev pub AreNext : List (List ℕ) → List (List ℕ) → ℕ → Type 0
AreNext before [] size = size ≤ 1048576
AreNext before (name ∷ names) size = IsName name × ComesAfter before name × (size + length name + 1 ≤ 1048576) × AreNext (name ∷ []) names (size + length name + 1)
