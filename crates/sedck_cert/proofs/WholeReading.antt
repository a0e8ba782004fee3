-- The parts of a certificate, read one after another.
use Rattle.sedck_cert.proofs.Common.{◌≡◌, ◌⊎◌, inl, inr, ℕ, suc, ◌+◌, ◌≤◌, List, [], ◌∷◌, ◌++◌, length, decimal, codes, Option, Some, All, append_assoc, append-nil, refl, sym, ◌∙◌, ap, arith, if_err_from, names_size, Certificate, nodes_in, AreWithin, line, header, node_texts, joined_lines, IsTextOf, Version, Due, Header, Count, Names, Last, Nothing, IsFaultOf, fault_at, nodes_due, Leads, Stops, list_texts, certificate_lines, Lines, Reads, Writes, CertFault, OutOfMemory, cond, count_by, IfSome, ◌==◌, sum_by-append, IsLineOf, line_of}
use Rattle.std.specs.Prelude.{Result, IfErr}
use Rattle.std.specs.Result.{IsErrAnd}
use Rattle.sedck_cert.proofs.LineLemmas.{leads_on, leads_stops}
use Rattle.sedck_cert.proofs.UniqueTexts.{fault_of_none}
use Rattle.sedck_cert.proofs.LinesAreText.{list_law, certificate_lines-joined}

-- ---- Faults

pub fault_of : (v : Version) (text : List ℕ) (start : Lines) (fault : CertFault) → start.rest.now ≡ text → start.number ≡ 1 → Stops v Header start fault → IsFaultOf v text fault
fault_of v text start fault rest number s = record {
  before = s.before;
  rest = s.rest;
  due = s.wrong;
  is_text = sym rest ∙ s.is_text;
  are_due = s.are_due;
  is_refused = s.is_refused;
  is_fault = s.is_fault ∙ ap (fault_at s.wrong) (omega (arith, number));
}

-- a fault after lines that are due
pub refused_later : {A : Type 0} {v : Version} {text : List ℕ} {start at : Lines} {due : Due} {before : List (List ℕ)} {fault : CertFault} (r : Result A CertFault)
    → IsErrAnd r (λ y. y ≡ fault) → start.rest.now ≡ text → start.number ≡ 1 → Leads v Header start before at due → (fault ≡ OutOfMemory) ⊎ Stops v due at fault
    → IfErr r (λ f. (f ≡ OutOfMemory) ⊎ IsFaultOf v text f)
refused_later {A} {v} {text} {start} {at} {due} {before} {fault} r err rest number leads h =
    if_err_from (λ f. (f ≡ OutOfMemory) ⊎ IsFaultOf v text f) r fault err (elim h [
      | inl memory ↦ inl memory
      | inr stops ↦ inr (fault_of v text start fault rest number (leads_stops leads stops))
    ])

-- ---- The certificate

abbrev made : ℕ → List (Option (ℕ × ℕ)) → List (List ℕ) → List (List ℕ) → Certificate
made n ranks reads writes = record { commands = n; ranks = ranks; reads = reads; writes = writes }

pub whole_text : (v : Version) (text : List ℕ) (n : ℕ) (ranks : List (Option (ℕ × ℕ))) (reads writes : List (List ℕ)) (size : ℕ) {x0 x1 x2 x3 x4 x5 x6 : Lines}
    → n ≤ 4095 → length ranks ≡ nodes_in v n → All AreWithin ranks → length reads ≤ 4095 → length writes ≤ 4095 → size ≤ 1048576
    → x0.rest.now ≡ text
    → Leads v Header x0 (header v ∷ []) x1 Count
    → Leads v Count x1 ((codes "commands " ++ decimal n) ∷ []) x2 (nodes_due 0 (nodes_in v n))
    → Leads v (nodes_due 0 (nodes_in v n)) x2 (node_texts v 0 ranks) x3 (Names Reads 0)
    → Leads v (Names Reads 0) x3 (list_texts Reads reads) x4 (Names Writes size)
    → Leads v (Names Writes size) x4 (list_texts Writes writes) x5 Last
    → Leads v Last x5 (codes "end" ∷ []) x6 Nothing
    → x6.rest.now ≡ []
    → IsTextOf v text (made n ranks reads writes)
whole_text v text n ranks reads writes size few count within less fewer small is l1 l2 l3 l4 l5 l6 last =
    let first = list_law v Reads reads 0 (Names Writes size) (omega arith) less l4.are_due in
    let second = list_law v Writes writes size Last small fewer l5.are_due in
    let same : size ≡ 0 + names_size reads = cc (first.1) in
    let all = leads_on l1 (leads_on l2 (leads_on l3 (leads_on l4 (leads_on l5 l6)))) in
    let lines = certificate_lines v (made n ranks reads writes) in
    record {
      within = record { commands = few; nodes = count; ranks = within; reads = first.0; writes = second.0; size = omega (arith, same, second.2) };
      is_text = sym is ∙ all.is_text ∙ ap (λ t. joined_lines lines ++ t) last ∙ append-nil (joined_lines lines)
          ∙ certificate_lines-joined v (made n ranks reads writes);
    }

-- ---- The line of a fault

abbrev newlines : List ℕ → ℕ
newlines text = count_by (λ b. b == 10) text

newlines-append : (a b : List ℕ) → newlines (a ++ b) ≡ newlines a + newlines b
newlines-append a b = sum_by-append (λ x. cond (x == 10) 1 0) a b

newlines_in : (before : List (List ℕ)) (rest : List ℕ) → length before ≤ newlines (joined_lines before ++ rest)
newlines_in [] rest = omega arith
newlines_in (text ∷ before) rest =
    let split : newlines (joined_lines (text ∷ before) ++ rest) ≡ newlines (line text) + newlines (joined_lines before ++ rest) =
    ap newlines (append_assoc (line text) (joined_lines before) rest) ∙ newlines-append (line text) (joined_lines before ++ rest) in
    let one : newlines (line text) ≡ newlines text + 1 = newlines-append text (10 ∷ []) in
    omega (arith, split, one, newlines_in before rest)

line_of-fault_at : (due : Due) (n : ℕ) → line_of (fault_at due n) ≡ Some n
line_of-fault_at Header n = refl
line_of-fault_at due n = refl

pub fault_placed : (v : Version) (text : List ℕ) (fault : CertFault) → IsFaultOf v text fault → IfSome (line_of fault) (IsLineOf text)
fault_placed v text fault f =
    let many : length f.before ≤ newlines text = rw f.is_text (newlines_in f.before f.rest) in
    let is : line_of fault ≡ Some (suc (length f.before)) = ap line_of f.is_fault ∙ line_of-fault_at f.due (suc (length f.before)) in
    rw is (omega arith, omega (arith, many))

-- ---- What the readers say of a text that they refuse

abbrev pub IsRefusedIn : Version → List ℕ → CertFault → Type 0
IsRefusedIn v text fault = (fault ≡ OutOfMemory) ⊎ (((other : Certificate) → ¬ IsTextOf v text other) × IsFaultOf v text fault)

pub refused_as : {A : Type 0} (v : Version) (text : List ℕ) (r : Result A CertFault) (fault : CertFault) → IsErrAnd r (λ y. y ≡ fault)
    → (fault ≡ OutOfMemory) ⊎ IsFaultOf v text fault → IfErr r (IsRefusedIn v text)
refused_as v text r fault err h =
    if_err_from (IsRefusedIn v text) r fault err (elim h [ inl memory ↦ inl memory | inr is ↦ inr (fault_of_none v text fault is, is) ])

pub placed_as : {A : Type 0} (v : Version) (text : List ℕ) (r : Result A CertFault) (fault : CertFault) → IsErrAnd r (λ y. y ≡ fault)
    → (fault ≡ OutOfMemory) ⊎ IsFaultOf v text fault → IfErr r (λ f. IfSome (line_of f) (IsLineOf text))
placed_as v text r fault err h =
    if_err_from (λ f. IfSome (line_of f) (IsLineOf text)) r fault err (elim h [ inl memory ↦ rw memory tt | inr is ↦ fault_placed v text fault is ])
