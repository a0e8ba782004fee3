-- Texts of either version: one certificate at most, and none where the version that the text names has none.
use Rattle.sedck_cert.proofs.Common.{◌≡◌, ◌⊎◌, inl, inr, ℕ, List, get_or, Bool, true, false, Result, Ok, Err, IfErr, arith, sym, ◌∙◌, ap, refl, Certificate, header, IsTextOf, upgraded, SpellsCertificate, IsFaultIn, OnFalse, ◌↔◌, IsCut, IsNext, Lines, One, Two, CertFault, OutOfMemory, IfOk, SaysVersionOne, OnTrue}
use Rattle.std.specs.Prelude.{IsTrue}
use Rattle.sedck_cert.proofs.LineLemmas.{line-behind}
use Rattle.sedck_cert.proofs.LinesAreText.{header-one_line}
use Rattle.sedck_cert.proofs.Pieces.{header_first}
use Rattle.sedck_cert.proofs.UniqueTexts.{lines_one, text_of_one}
use Rattle.sedck_cert.proofs.WholeReading.{IsRefusedIn}

-- ---- The version that a text names

headers_differ : header One ≡ header Two → ⊥
headers_differ e = let digits : 49 ≡ 50 = ap (λ t. get_or t 6 0) e in omega (arith, digits)

-- a text of version 1 says so
pub one_says : (text : List ℕ) (c : Certificate) → IsTextOf One text c → SaysVersionOne text
one_says text c h = let rest = header_first One c in (rest.0, h.is_text ∙ rest.1)

-- a text of version 2 doesn't
pub two_silent : (text : List ℕ) (c : Certificate) → IsTextOf Two text c → ¬ SaysVersionOne text
two_silent text c h says =
    let rest = header_first Two c in
    headers_differ (lines_one (header One) (header Two) says.0 rest.0 (header-one_line One) (header-one_line Two) (sym says.1 ∙ h.is_text ∙ rest.1)).0

-- what the test of the first line finds
pub says_by_test : (text : List ℕ) (r : Bool) (old new : Lines) → old.rest.now ≡ text → OnTrue r (IsNext old (header One) new)
    → OnFalse r ((more : List ℕ) → IsCut 10 old.rest.now (header One) more → ⊥) → IsTrue r ↔ SaysVersionOne text
says_by_test text true old new is same other =
    (λ yes. (new.rest.now, sym is ∙ same.cut.is_text ∙ sym (line-behind (header One) new.rest.now)), λ says. refl)
says_by_test text false old new is same other = (
  λ yes. absurd (let h : false ≡ true = yes in cc),
  λ says. absurd (other says.0 (record { none = header-one_line One; is_text = is ∙ says.1 ∙ line-behind (header One) says.0 })),
)

-- ---- One certificate

pub spelled_one : (text : List ℕ) (c d : Certificate) → SpellsCertificate text c → SpellsCertificate text d → d ≡ c
spelled_one text c d (inl h) (inl k) = text_of_one Two text c d h k
spelled_one text c d (inl h) (inr k) = absurd (two_silent text c h (one_says text k.0 k.1))
spelled_one text c d (inr h) (inl k) = absurd (two_silent text d k (one_says text h.0 h.1))
spelled_one text c d (inr h) (inr k) = k.2 ∙ ap upgraded (text_of_one One text h.0 k.0 h.1 k.1) ∙ sym h.2

-- ---- No certificate

abbrev pub IsRefusedInAny : List ℕ → CertFault → Type 0
IsRefusedInAny text fault = (fault ≡ OutOfMemory) ⊎ (((other : Certificate) → ¬ SpellsCertificate text other) × IsFaultIn text fault)

pub refused_one : (text : List ℕ) (fault : CertFault) → SaysVersionOne text → IsRefusedIn One text fault → IsRefusedInAny text fault
refused_one text fault says (inl memory) = inl memory
refused_one text fault says (inr (none, is)) = inr (
  λ other spells. elim spells [ inl two ↦ two_silent text other two says | inr one ↦ none one.0 one.1 ],
  (One, says, is),
)

pub refused_two : (text : List ℕ) (fault : CertFault) → ¬ SaysVersionOne text → IsRefusedIn Two text fault → IsRefusedInAny text fault
refused_two text fault silent (inl memory) = inl memory
refused_two text fault silent (inr (none, is)) = inr (
  λ other spells. elim spells [ inl two ↦ none other two | inr one ↦ silent (one_says text one.0 one.1) ],
  (Two, silent, is),
)

-- what the reader of version 2 answers where the text doesn't name version 1
pub two_only : (text : List ℕ) (r : Result Certificate CertFault) → IfOk r (IsTextOf Two text)
    → IfOk r (λ cert. (other : Certificate) → SpellsCertificate text other → other ≡ cert)
two_only text (Ok cert) h = λ other spells. spelled_one text cert other (inl h) spells
two_only text (Err fault) h = tt

pub two_refused : (text : List ℕ) (r : Result Certificate CertFault) → ¬ SaysVersionOne text → IfErr r (IsRefusedIn Two text) → IfErr r (IsRefusedInAny text)
two_refused text (Ok cert) silent h = tt
two_refused text (Err fault) silent h = refused_two text fault silent h
