-- What follows a verb's byte.
use Rattle.sedck_commands.proofs.Common.{◌≡◌, ◌≢◌, ℕ, List, ◌∷◌, length, refl, ap, sym, ◌∙◌, subst, IsTrue, is_delimiter, Pattern, Part, Substitution, Substitute, Transliterate, Ends, DelimitedList, FirstList, Replacement, Flags, WrittenVerb, Known, VerbText, PatternText, HasGroupsUpTo, HasGroups, greatest_group, AreLists}
use Rattle.sedck_commands.specs.Items as w
use Rattle.sedck_commands.proofs.UniqueParts.{list_one, replacement_one}
use Rattle.sedck_commands.proofs.UniqueVerbs.{NoVerb, class_of, begins, differ}

-- what follows the delimiter of a `s`
record SubstituteInside (d : ℕ) (opened : List ℕ) (rest : List ℕ) : Type 0 where
  behind : List ℕ
  flags : List ℕ
  pattern : Pattern
  parts : List Part
  substitution : Substitution
  patterns : PatternText d opened pattern behind
  replacement : Replacement d behind parts flags
  groups : HasGroups pattern parts
  others : Flags pattern parts flags substitution rest

substitute_at : {d : ℕ} {opened rest : List ℕ} {verb : WrittenVerb} → VerbText (115 ∷ d ∷ opened) verb rest → SubstituteInside d opened rest
substitute_at (w.substitute {expression = e} {behind = b} {flags = f} {pattern = q} {parts = ps} {substitution = s} h i x p z g k) =
    record { behind = b; flags = f; pattern = q; parts = ps; substitution = s; patterns = (e, x, p); replacement = z; groups = g; others = k }
substitute_at x = absurd (differ 115 (class_of x) refl (begins x))

pub substitute_read : {d : ℕ} {text opened behind after rest : List ℕ} {q : Pattern} {ps : List Part} {s : Substitution} → text ≡ d ∷ opened
    → IsTrue (is_delimiter d) → PatternText d opened q behind → Replacement d behind ps after → HasGroups q ps → Flags q ps after s rest
    → VerbText (115 ∷ text) (Known (Substitute s)) rest
substitute_read {rest = rest} {s = s} e h p z g f = subst (λ t. VerbText (115 ∷ t) (Known (Substitute s)) rest) (sym e) (w.substitute refl h p.1 p.2 z g f)

pub substitute_no_delimiter : {text : List ℕ} → ((d : ℕ) (rest : List ℕ) → text ≡ d ∷ rest → IsTrue (is_delimiter d) → ⊥) → NoVerb (115 ∷ text)
substitute_no_delimiter n verb rest (w.substitute h i x p z g k) = n _ _ refl i
substitute_no_delimiter n verb rest x = differ 115 (class_of x) refl (begins x)

pub substitute_no_pattern : {d : ℕ} {text opened : List ℕ} → text ≡ d ∷ opened → ((p : Pattern) (r : List ℕ) → PatternText d opened p r → ⊥)
    → NoVerb (115 ∷ text)
substitute_no_pattern e n verb rest x = let i = substitute_at (rw e at x) in n i.pattern i.behind i.patterns

pub substitute_no_parts : {d : ℕ} {text opened behind : List ℕ} (g : ℕ) (q : Pattern) → text ≡ d ∷ opened
    → ((p : Pattern) (r : List ℕ) → PatternText d opened p r → (p ≡ q) × (r ≡ behind)) → g ≡ greatest_group q
    → ((ps : List Part) (r : List ℕ) → Replacement d behind ps r → HasGroupsUpTo g ps → ⊥) → NoVerb (115 ∷ text)
substitute_no_parts {d} g q e only h n verb rest x =
    let i = substitute_at (rw e at x) in
    let one = only i.pattern i.behind i.patterns in
    n i.parts i.flags (rw one.1 at i.replacement) (λ k c. rw (ap greatest_group one.0 ∙ sym h) at (i.groups k c))

pub substitute_no_flags : {d : ℕ} {text opened behind after : List ℕ} {parts : List Part} (q : Pattern) → d ≢ 92 → text ≡ d ∷ opened
    → ((p : Pattern) (r : List ℕ) → PatternText d opened p r → (p ≡ q) × (r ≡ behind)) → Replacement d behind parts after
    → ((p : Pattern) (ps : List Part) (s : Substitution) (r : List ℕ) → Flags p ps after s r → ⊥) → NoVerb (115 ∷ text)
substitute_no_flags {d} q k e only z n verb rest x =
    let i = substitute_at (rw e at x) in
    let one = only i.pattern i.behind i.patterns in
    let two = replacement_one k (subst (λ t. Replacement d t i.parts i.flags) one.1 i.replacement) z in
    n i.pattern i.parts i.substitution rest (subst (λ t. Flags i.pattern i.parts t i.substitution rest) two.1 i.others)

-- what follows the delimiter of a `y`
record TransliterateInside (d : ℕ) (opened rest : List ℕ) : Type 0 where
  after : List ℕ
  from : List ℕ
  to : List ℕ
  lists : AreLists d opened from to after
  ends : Ends after rest

transliterate_at : {d : ℕ} {opened rest : List ℕ} {verb : WrittenVerb} → VerbText (121 ∷ d ∷ opened) verb rest → TransliterateInside d opened rest
transliterate_at (w.transliterate {from = f} {behind = b} {to = o} {after = a} h i x m y l e) =
    record { after = a; from = f; to = o; lists = record { behind = b; first = record { list = x; alike = m }; second = y; equal = l }; ends = e }
transliterate_at x = absurd (differ 121 (class_of x) refl (begins x))

pub transliterate_read : {d : ℕ} {text opened after from to rest : List ℕ} → text ≡ d ∷ opened → IsTrue (is_delimiter d)
    → AreLists d opened from to after → Ends after rest → VerbText (121 ∷ text) (Known (Transliterate from to)) rest
transliterate_read {from = from} {to = to} {rest = rest} e h l f = subst (λ t. VerbText (121 ∷ t) (Known (Transliterate from to)) rest) (sym e)
    (w.transliterate refl h l.first.list l.first.alike l.second l.equal f)

pub transliterate_no_delimiter : {text : List ℕ} → ((d : ℕ) (rest : List ℕ) → text ≡ d ∷ rest → IsTrue (is_delimiter d) → ⊥) → NoVerb (121 ∷ text)
transliterate_no_delimiter n verb rest (w.transliterate h i x m y l e) = n _ _ refl i
transliterate_no_delimiter n verb rest x = differ 121 (class_of x) refl (begins x)

pub transliterate_no_lists : {d : ℕ} {text opened : List ℕ} → text ≡ d ∷ opened → ((from to r : List ℕ) → AreLists d opened from to r → ⊥)
    → NoVerb (121 ∷ text)
transliterate_no_lists e n verb rest x = let i = transliterate_at (rw e at x) in n i.from i.to i.after i.lists

-- the second of two lists, where the first is known
second_list : {d : ℕ} {text from behind f t r : List ℕ} → d ≢ 92 → FirstList d text from behind → AreLists d text f t r
    → DelimitedList d behind t r × (length from ≡ length t)
second_list {d} {t = t} {r = r} k x l =
    let one = list_one k l.first.list x.list in
    (subst (λ u. DelimitedList d u t r) one.1 l.second, sym (ap length one.0) ∙ l.equal)

pub no_second_list : {d : ℕ} {text from behind : List ℕ} → d ≢ 92 → FirstList d text from behind
    → ((bytes r : List ℕ) → DelimitedList d behind bytes r → ⊥) → (f t r : List ℕ) → AreLists d text f t r → ⊥
no_second_list k x n f t r l = n t r (second_list k x l).0

pub unequal_lists : {d : ℕ} {text from behind to after : List ℕ} → d ≢ 92 → FirstList d text from behind → DelimitedList d behind to after
    → length from ≢ length to → (f t r : List ℕ) → AreLists d text f t r → ⊥
unequal_lists k x y n f t r l = let s = second_list k x l in n (s.1 ∙ ap length (list_one k s.0 y).0)

lists_one : {d : ℕ} {text from to after f t r : List ℕ} → d ≢ 92 → AreLists d text from to after → AreLists d text f t r → r ≡ after
lists_one k l m = (list_one k (second_list k l.first m).0 l.second).1

pub transliterate_no_end : {d : ℕ} {text opened from to after : List ℕ} → d ≢ 92 → text ≡ d ∷ opened → AreLists d opened from to after
    → ((r : List ℕ) → Ends after r → ⊥) → NoVerb (121 ∷ text)
transliterate_no_end k e l n verb rest x = let i = transliterate_at (rw e at x) in n rest (subst (λ t. Ends t rest) (lists_one k l i.lists) i.ends)
