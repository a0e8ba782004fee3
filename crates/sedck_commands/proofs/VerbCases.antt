-- What follows a verb's byte, by its byte.
use Rattle.sedck_commands.proofs.Common.{◌≡◌, ℕ, Bool, true, false, eqb, inl, inr, List, [], ◌∷◌, Option, Some, None, refl, ap, sym, ◌∙◌, subst, codes, list_all, false≢true, eqb-true, and_parts, is_in, one_of, is_blank, Longest, Verb, Ends, GivenText, Name, WrittenVerb, JumpTo, Simple, VerbText, jump_byte, BranchText, longest_one, or_cases}
use Rattle.sedck_commands.specs.Items as w
use Rattle.sedck_commands.proofs.UniqueVerbs.{NoVerb, class, class_of, begins, differ, simple_class, jump_class}

-- what each byte of a list passes, a byte of it passes
pub of_all : (test : ℕ → Bool) (bytes : List ℕ) (b : ℕ) → is_in b bytes ≡ true → list_all test bytes ≡ true → test b ≡ true
of_all test [] b h all = absurd (false≢true h)
of_all test (c ∷ bytes) b h all =
    let both = and_parts (test c) (list_all test bytes) all in
    elim (or_cases (eqb c b) _ h) [ inl e ↦ subst (λ x. test x ≡ true) (eqb-true c b e) both.0 | inr more ↦ of_all test bytes b more both.1 ]

-- a verb of none of these bytes
no_byte_of : (bytes : List ℕ) (b : ℕ) {text rest : List ℕ} {verb : WrittenVerb} → is_in b bytes ≡ true → (x : VerbText (b ∷ text) verb rest)
    → is_in (class_of x) bytes ≡ false → list_all (λ c. is_in (class c) bytes) bytes ≡ true → ⊥
no_byte_of bytes b h x other all =
    false≢true (sym other ∙ ap (λ c. is_in c bytes) (sym (begins x)) ∙ of_all (λ c. is_in (class c) bytes) bytes b h all)

-- a verb with a text, where none is given
pub no_text : (b : ℕ) {text blanks begins : List ℕ} → one_of "aci" b ≡ true → Longest is_blank text blanks begins
    → ((bytes r : List ℕ) → GivenText begins bytes r → ⊥) → NoVerb (b ∷ text)
no_text b h l n verb rest (w.append i m x) = n _ rest (rw (longest_one m l).1 at x)
no_text b h l n verb rest (w.change i m x) = n _ rest (rw (longest_one m l).1 at x)
no_text b h l n verb rest (w.insert i m x) = n _ rest (rw (longest_one m l).1 at x)
no_text b h l n verb rest x = no_byte_of (codes "aci") b h x refl refl

-- a verb with a file, where no name is
pub no_name : (b : ℕ) {text : List ℕ} → one_of "rw" b ≡ true → ((name r : List ℕ) → Name text name r → ⊥) → NoVerb (b ∷ text)
no_name b h n verb rest (w.read i x) = n _ rest x
no_name b h n verb rest (w.write i x) = n _ rest x
no_name b h n verb rest x = no_byte_of (codes "rw") b h x refl refl

-- a verb that takes nothing, and doesn't end
pub simple_no_end : {b : ℕ} {text : List ℕ} {simple : Verb} → Simple b simple → ((r : List ℕ) → Ends text r → ⊥) → NoVerb (b ∷ text)
simple_no_end s n verb rest (w.simple x e) = n rest e
simple_no_end s n verb rest x = differ 0 (class_of x) refl (sym (simple_class s) ∙ begins x)

pub jump_read : {text rest : List ℕ} {tests braced : Bool} (label : Option (List ℕ)) → BranchText text label braced rest
    → VerbText (jump_byte tests ∷ text) (JumpTo tests label braced) rest
jump_read (Some name) x = w.jump refl x.1 (x.2, x.3.1) x.3.0 x.4
jump_read None x = w.jump_to_end refl (x.0, x.1.1) x.1.0 x.2

-- a `b` or a `t`, after which no label is
pub no_jump : {b : ℕ} {text : List ℕ} (tests : Bool) → b ≡ jump_byte tests
    → ((label : Option (List ℕ)) (braced : Bool) (rest : List ℕ) → BranchText text label braced rest → ⊥) → NoVerb (b ∷ text)
no_jump tests h n verb rest (w.jump {name = a} i l k e brace) = n (Some a) _ rest (_, l, k.0, (e, k.1), brace)
no_jump tests h n verb rest (w.jump_to_end i k e brace) = n None _ rest (k.0, (e, k.1), brace)
no_jump tests h n verb rest x = differ 98 (class_of x) refl (sym (jump_class tests) ∙ ap class (sym h) ∙ begins x)
