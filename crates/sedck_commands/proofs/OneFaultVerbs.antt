-- A verb has one fault at most in what it takes, and can't be read where it has one.
use Rattle.sedck_commands.proofs.Common.{◌≡◌, ◌≢◌, ℕ, true, false, eqb, eqb-true, codes, cond, List, [], ◌∷◌, length, refl, ap, sym, ◌∙◌, inl, inr, ◌⊎◌, arith, IsTrue, one_of, is_delimiter, DelimitedList, FirstList, WrittenVerb, VerbText, Simple, jump_byte, ScriptFault, FirstListFault, ListFault, TransliterationFault, VerbFault}
use Rattle.sedck_commands.specs.Items as w
use Rattle.sedck_commands.specs.FirstFaults as o
use Rattle.sedck_commands.proofs.FirstBytes.{heads, tails}
use Rattle.sedck_commands.proofs.UniqueParts.{list_one}
use Rattle.sedck_commands.proofs.UniqueVerbs.{no_backslash}
use Rattle.sedck_commands.proofs.VerbLemmas.{transliterate_no_delimiter, transliterate_no_lists, no_second_list, unequal_lists, transliterate_no_end}
use Rattle.sedck_commands.proofs.VerbCases.{of_all, no_text, no_name, simple_no_end, no_jump}
use Rattle.sedck_commands.proofs.OneFaultEnds.{at_one, end_one, end_not, text_one, file_one, file_not}
use Rattle.sedck_commands.proofs.OneFaultParts.{OneCause, list_fault_one, list_fault_not, first_list_one, first_list_not}
use Rattle.sedck_commands.proofs.OneFaultAddresses.{no_newline, no_delimiter}
use Rattle.sedck_commands.proofs.OneFaultFlags.{substitution_fault_one, substitution_fault_not}
use Rattle.sedck_commands.proofs.OneFaultLabels.{IsFresh, label_fault_one, label_fault_not, jump_fault_one, jump_fault_not}

-- ---- Two lists

module _ {text s t : List ℕ} {d c : ℕ} (e : text ≡ d ∷ s) (i : text ≡ c ∷ t) (j : IsTrue (is_delimiter c)) where
  -- the first list is bad, and it is read
  first_both : {size opening : ℕ} {from r : List ℕ} {f : ScriptFault} → FirstListFault size opening d s f → FirstList c t from r → ⊥
  first_both x y = let same = sym e ∙ i in first_list_not (no_backslash j) (no_newline j) (rw (heads same, tails same) at x) y

  -- the first list is read in one way
  first_same : {from g r u : List ℕ} → FirstList d s from r → FirstList c t g u → (from ≡ g) × (r ≡ u)
  first_same x y = let same = sym e ∙ i in list_one (no_backslash j) (rw (heads same, tails same) at x.list) y.list

  second_both : {size opening : ℕ} {from g r u to v : List ℕ} {f : ScriptFault} → FirstList d s from r → ListFault size opening d r f
      → FirstList c t g u → DelimitedList c u to v → ⊥
  second_both x y z k = let same = sym e ∙ i in list_fault_not (no_backslash j) (no_newline j) (rw (heads same, (first_same x z).1) at y) k

  lists_same : {from g r u to q v p : List ℕ} → FirstList d s from r → DelimitedList d r to v → FirstList c t g u → DelimitedList c u q p
      → (from ≡ g) × (to ≡ q) × (v ≡ p)
  lists_same x y z k =
      let first = first_same x z in
      let second = list_one (no_backslash j) (rw (heads (sym e ∙ i), first.1) at y) k in
      (first.0, second.0, second.1)

  -- they are equally long, and aren't
  lengths_both : {from g r u to q v p : List ℕ} → FirstList d s from r → DelimitedList d r to v → FirstList c t g u → DelimitedList c u q p
      → length from ≢ length to → length g ≡ length q → ⊥
  lengths_both x y z k n m = let same = lists_same x y z k in n (ap length same.0 ∙ m ∙ sym (ap length same.1))

pub transliteration_fault_one : {size opening : ℕ} {text : List ℕ} {f g : ScriptFault} → TransliterationFault size opening text f
    → TransliterationFault size opening text g → f ≡ g
transliteration_fault_one (o.undelimited h) (o.undelimited i) = refl
transliteration_fault_one (o.undelimited h) (o.first e d x) = absurd (no_delimiter h e d)
transliteration_fault_one (o.undelimited h) (o.second e d l x) = absurd (no_delimiter h e d)
transliteration_fault_one (o.undelimited h) (o.lengths e d l m n) = absurd (no_delimiter h e d)
transliteration_fault_one (o.undelimited h) (o.ends e d l m n x) = absurd (no_delimiter h e d)
transliteration_fault_one (o.first e d x) (o.undelimited h) = absurd (no_delimiter h e d)
transliteration_fault_one (o.second e d l x) (o.undelimited h) = absurd (no_delimiter h e d)
transliteration_fault_one (o.lengths e d l m n) (o.undelimited h) = absurd (no_delimiter h e d)
transliteration_fault_one (o.ends e d l m n x) (o.undelimited h) = absurd (no_delimiter h e d)
transliteration_fault_one (o.first e d x) (o.first i j y) =
    let same = sym e ∙ i in first_list_one (no_backslash j) (no_newline j) (rw (heads same, tails same) at x) y
transliteration_fault_one (o.first e d x) (o.second i j l y) = absurd (first_both e i j x l)
transliteration_fault_one (o.first e d x) (o.lengths i j l m n) = absurd (first_both e i j x l)
transliteration_fault_one (o.first e d x) (o.ends i j l m n y) = absurd (first_both e i j x l)
transliteration_fault_one (o.second i j l y) (o.first e d x) = absurd (first_both e i j x l)
transliteration_fault_one (o.lengths i j l m n) (o.first e d x) = absurd (first_both e i j x l)
transliteration_fault_one (o.ends i j l m n y) (o.first e d x) = absurd (first_both e i j x l)
transliteration_fault_one (o.second e d l x) (o.second i j k y) =
    list_fault_one (no_backslash j) (no_newline j) (rw (heads (sym e ∙ i), (first_same e i j l k).1) at x) y
transliteration_fault_one (o.second e d l x) (o.lengths i j k m n) = absurd (second_both e i j l x k m)
transliteration_fault_one (o.second e d l x) (o.ends i j k m n y) = absurd (second_both e i j l x k m)
transliteration_fault_one (o.lengths i j k m n) (o.second e d l x) = absurd (second_both e i j l x k m)
transliteration_fault_one (o.ends i j k m n y) (o.second e d l x) = absurd (second_both e i j l x k m)
transliteration_fault_one (o.lengths e d l m n) (o.lengths i j k q p) = refl
transliteration_fault_one (o.lengths e d l m n) (o.ends i j k q p y) = absurd (lengths_both e i j l m k q n p)
transliteration_fault_one (o.ends i j k q p y) (o.lengths e d l m n) = absurd (lengths_both e i j l m k q n p)
transliteration_fault_one (o.ends e d l m n x) (o.ends i j k q p y) = end_one (rw (lists_same e i j l m k q).2 at x) y

pub transliteration_fault_not : {size opening : ℕ} {text rest : List ℕ} {verb : WrittenVerb} {f : ScriptFault} → TransliterationFault size opening text f
    → VerbText (121 ∷ text) verb rest → ⊥
transliteration_fault_not (o.undelimited h) = transliterate_no_delimiter (λ d rest e i. no_delimiter h e i) _ _
transliteration_fault_not (o.first e d x) = transliterate_no_lists e (λ from to r l. first_list_not (no_backslash d) (no_newline d) x l.first) _ _
transliteration_fault_not (o.second e d l x) =
    transliterate_no_lists e (no_second_list (no_backslash d) l (λ bytes r m. list_fault_not (no_backslash d) (no_newline d) x m)) _ _
transliteration_fault_not (o.lengths e d l m n) = transliterate_no_lists e (unequal_lists (no_backslash d) l m n) _ _
transliteration_fault_not (o.ends e d l m n x) =
    transliterate_no_end (no_backslash d) e (record { behind = _; first = l; second = m; equal = n }) (λ r k. end_not x k) _ _

-- ---- Verbs

-- the byte of a verb, one for all that take nothing, a text, a name or a label to jump to
abbrev verb_kind : ℕ → ℕ
verb_kind b =
    cond (one_of "=dDgGhHlnNpPqx" b) 0 (cond (one_of "aci" b) 97 (cond (one_of "rw" b) 114 (cond (one_of "bt" b) 98 b)))

abbrev head_kind : List ℕ → ℕ
head_kind [] = 0
head_kind (b ∷ text) = verb_kind b

abbrev kind_of : {size : ℕ} {IsDefined : List ℕ → Type 0} {text : List ℕ} {f : ScriptFault} → VerbFault size IsDefined text f → ℕ
kind_of (o.simple e s x) = 0
kind_of (o.no_text e h a x) = 97
kind_of (o.no_name e h a x) = 114
kind_of (o.label e x) = 58
kind_of (o.jump e h x) = 98
kind_of (o.substitution e a x) = 115
kind_of (o.transliteration e a x) = 121

simple_kind : {b : ℕ} {verb : _} → Simple b verb → verb_kind b ≡ 0
simple_kind w.line_number = refl
simple_kind _ = refl

text_kind : (b : ℕ) → one_of "aci" b ≡ true → verb_kind b ≡ 97
text_kind b h = eqb-true (verb_kind b) 97 (of_all (λ c. eqb (verb_kind c) 97) (codes "aci") b h refl)

name_kind : (b : ℕ) → one_of "rw" b ≡ true → verb_kind b ≡ 114
name_kind b h = eqb-true (verb_kind b) 114 (of_all (λ c. eqb (verb_kind c) 114) (codes "rw") b h refl)

jump_kind : (b : ℕ) → one_of "bt" b ≡ true → verb_kind b ≡ 98
jump_kind b h = eqb-true (verb_kind b) 98 (of_all (λ c. eqb (verb_kind c) 98) (codes "bt") b h refl)

kind_begins : {size : ℕ} {IsDefined : List ℕ → Type 0} {text : List ℕ} {f : ScriptFault} (x : VerbFault size IsDefined text f) → head_kind text ≡ kind_of x
kind_begins (o.simple e s x) = ap head_kind e ∙ simple_kind s
kind_begins (o.no_text {b = b} e h a x) = ap head_kind e ∙ text_kind b h
kind_begins (o.no_name {b = b} e h a x) = ap head_kind e ∙ name_kind b h
kind_begins (o.label e x) = ap head_kind e
kind_begins (o.jump {b = b} e h x) = ap head_kind e ∙ jump_kind b h
kind_begins (o.substitution e a x) = ap head_kind e
kind_begins (o.transliteration e a x) = ap head_kind e

pub verb_fault_one : {size : ℕ} {IsDefined : List ℕ → Type 0} {text : List ℕ} {f g : ScriptFault} → OneCause → VerbFault size IsDefined text f
    → VerbFault size IsDefined text g → f ≡ g
verb_fault_one one (o.simple e s x) (o.simple i t y) = end_one (rw (tails (sym e ∙ i)) at x) y
verb_fault_one one (o.no_text e h a x) (o.no_text i j b y) = text_one (rw (at_one refl a b, tails (sym e ∙ i)) at x) y
verb_fault_one one (o.no_name e h a x) (o.no_name i j b y) = file_one (rw (at_one refl a b, tails (sym e ∙ i)) at x) y
verb_fault_one one (o.label e x) (o.label i y) = label_fault_one (rw (tails (sym e ∙ i)) at x) y
verb_fault_one one (o.jump e h x) (o.jump i j y) = jump_fault_one (rw (tails (sym e ∙ i)) at x) y
verb_fault_one one (o.substitution e a x) (o.substitution i b y) = substitution_fault_one one (rw (at_one refl a b, tails (sym e ∙ i)) at x) y
verb_fault_one one (o.transliteration e a x) (o.transliteration i b y) = transliteration_fault_one (rw (at_one refl a b, tails (sym e ∙ i)) at x) y
verb_fault_one one x y = absurd (omega (arith, sym (kind_begins x) ∙ kind_begins y))

jump_tests : (b : ℕ) → one_of "bt" b ≡ true → (b ≡ jump_byte true) ⊎ (b ≡ jump_byte false)
jump_tests b h = grind (arith, h)

pub verb_fault_not : {size : ℕ} {IsDefined : List ℕ → Type 0} {text rest : List ℕ} {verb : WrittenVerb} {f : ScriptFault}
    → VerbFault size IsDefined text f → VerbText text verb rest → IsFresh IsDefined verb → ⊥
verb_fault_not (o.simple e s x) y fresh = simple_no_end s (λ r k. end_not x k) _ _ (rw e at y)
verb_fault_not (o.no_text {b = b} e h a (o.missing l n)) y fresh = no_text b h l n _ _ (rw e at y)
verb_fault_not (o.no_name {b = b} e h a x) y fresh = no_name b h (λ name r n. file_not x n) _ _ (rw e at y)
verb_fault_not (o.label e x) y fresh = label_fault_not x (rw e at y) fresh
verb_fault_not (o.jump {b = b} e h x) y fresh = elim (jump_tests b h) [
  | inl test ↦ no_jump true test (jump_fault_not x) _ _ (rw e at y)
  | inr branch ↦ no_jump false branch (jump_fault_not x) _ _ (rw e at y)
]
verb_fault_not (o.substitution e a x) y fresh = substitution_fault_not x (rw e at y)
verb_fault_not (o.transliteration e a x) y fresh = transliteration_fault_not x (rw e at y)
