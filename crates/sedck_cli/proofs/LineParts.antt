-- The words of a fault, in the parts in which they are written.
use Rattle.std.proofs.Common.{refl, ◌≡◌, ℕ, List, ◌++◌, Option, Some, None, codes, decimal, append_assoc, ap, ◌∙◌}
use Rattle.sedck_expressions.specs.FaultWords.{place_words, fault_words as expression_fault_words, fault_number as expression_fault_number, fault_name as expression_fault_name, fault_place as expression_fault_place}
use Rattle.sedck_expressions.specs.declared.fault.ReFault.{ReFault}
use Rattle.sedck_commands.specs.FaultWords.{fault_words, fault_number, fault_name, fault_place, cause_words}
use Rattle.sedck_commands.specs.declared.fault.ScriptFault.{ScriptFault}
use Rattle.sedck_cert.specs.FaultText.{fault_text, number_of, name_of, place_text}
use Rattle.sedck_cert.specs.Faults.{line_of}
use Rattle.sedck_cert.specs.declared.reading.CertFault.{CertFault}
use Rattle.sedck_cli.specs.Private.Places.{place_behind}

-- number and name, as they are written
abbrev pub fault_front : ℕ → List ℕ → List ℕ
fault_front number name = decimal number ++ (codes " " ++ name)

place_at : (place : Option ℕ) → place_words place ≡ place_behind (codes " at ") place
place_at None = refl
place_at (Some place) = refl

place_at_line : (place : Option ℕ) → place_text place ≡ place_behind (codes " at line ") place
place_at_line None = refl
place_at_line (Some place) = refl

expression_joined : (number : ℕ) (name place : List ℕ)
    → codes ": expression " ++ (codes "fault " ++ decimal number ++ codes " " ++ name ++ place)
    ≡ codes ": expression fault " ++ (fault_front number name ++ place)
expression_joined number name place = simp append_assoc

pub cause_parts : (why : ReFault) (number : ℕ) (name : List ℕ) (place : Option ℕ) → number ≡ expression_fault_number why → name ≡ expression_fault_name why
    → place ≡ expression_fault_place why
    → codes ": expression " ++ expression_fault_words why ≡ codes ": expression fault " ++ (fault_front number name ++ place_behind (codes " at ") place)
cause_parts why number name place n m p = rw (n, m, p) (
    ap (λ t. codes ": expression " ++ (codes "fault " ++ decimal (expression_fault_number why) ++ codes " " ++ expression_fault_name why ++ t))
    (place_at (expression_fault_place why))
    ∙ expression_joined (expression_fault_number why) (expression_fault_name why) (place_behind (codes " at ") (expression_fault_place why))
    )

script_joined : (number : ℕ) (name place cause : List ℕ)
    → codes "script " ++ (codes "fault " ++ decimal number ++ codes " " ++ name ++ place ++ cause)
    ≡ codes "script fault " ++ (fault_front number name ++ (place ++ cause))
script_joined number name place cause = simp append_assoc

pub script_parts : (why : ScriptFault) (number : ℕ) (name : List ℕ) (place : Option ℕ) → number ≡ fault_number why → name ≡ fault_name why
    → place ≡ fault_place why
    → codes "script " ++ fault_words why ≡ codes "script fault " ++ (fault_front number name ++ (place_behind (codes " at ") place ++ cause_words why))
script_parts why number name place n m p = rw (n, m, p) (
    ap (λ t. codes "script " ++ (codes "fault " ++ decimal (fault_number why) ++ codes " " ++ fault_name why ++ t ++ cause_words why)) (place_at (fault_place why))
    ∙ script_joined (fault_number why) (fault_name why) (place_behind (codes " at ") (fault_place why)) (cause_words why)
    )

certificate_joined : (number : ℕ) (name place : List ℕ)
    → codes "certificate " ++ (codes "fault " ++ decimal number ++ codes " " ++ name ++ place)
    ≡ codes "certificate fault " ++ (fault_front number name ++ place)
certificate_joined number name place = simp append_assoc

pub certificate_parts : (why : CertFault) (number : ℕ) (name : List ℕ) (place : Option ℕ) → number ≡ number_of why → name ≡ name_of why
    → place ≡ line_of why
    → codes "certificate " ++ fault_text why ≡ codes "certificate fault " ++ (fault_front number name ++ place_behind (codes " at line ") place)
certificate_parts why number name place n m p = rw (n, m, p) (
    ap (λ t. codes "certificate " ++ (codes "fault " ++ decimal (number_of why) ++ codes " " ++ name_of why ++ t)) (place_at_line (line_of why))
    ∙ certificate_joined (number_of why) (name_of why) (place_behind (codes " at line ") (line_of why))
    )
