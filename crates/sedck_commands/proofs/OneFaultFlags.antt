-- What a substitution takes has one fault at most, and can't be read where it has one.
use Rattle.sedck_commands.proofs.Common.{◌≡◌, ◌≢◌, ℕ, Bool, true, false, ◌||◌, cond, List, [], ◌∷◌, None, refl, ap, sym, ◌∙◌, subst, arith, false≢true, false_from_ne_true, one_of, is_digit, is_blank, is_ending, Number, Pattern, Part, Substitution, ExpressionText, Flags, IsPattern, WrittenVerb, VerbText, ScriptFault, greatest_group, begins_flag, FlagsFault, SubstitutionFault, BadFlag}
use Rattle.sedck_commands.specs.Parts as p
use Rattle.sedck_commands.specs.FirstFaults as o
use Rattle.sedck_commands.proofs.FirstBytes.{heads, tails}
use Rattle.sedck_commands.proofs.UniqueParts.{number_one, number_first, digit_no_end, expression_one, pattern_one, replacement_one, head_flag, number_flag, flags_begin}
use Rattle.sedck_commands.proofs.UniqueVerbs.{no_backslash}
use Rattle.sedck_commands.proofs.FlagLemmas.{no_file, no_number, no_flags_end, no_flag}
use Rattle.sedck_commands.proofs.VerbLemmas.{substitute_no_delimiter, substitute_no_pattern, substitute_no_parts, substitute_no_flags}
use Rattle.sedck_commands.proofs.OneFaultEnds.{at_one, end_flags_one, end_flags_not, file_one, file_not}
use Rattle.sedck_commands.proofs.OneFaultParts.{OneCause, pattern_fault_one, pattern_fault_not}
use Rattle.sedck_commands.proofs.OneFaultReplacements.{replacement_fault_one, replacement_fault_not}
use Rattle.sedck_commands.proofs.OneFaultAddresses.{no_newline, no_delimiter}

-- ---- Flags

-- the byte of a flag, 1 for a digit, 2 for what is at their end and 0 for others
abbrev flag_kind : ℕ → ℕ
flag_kind b = cond (is_digit b) 1 (cond (is_blank b || is_ending b) 2 (cond (one_of "gpw" b) b 0))

abbrev head_kind : List ℕ → ℕ
head_kind [] = 2
head_kind (b ∷ text) = flag_kind b

abbrev kind_of : {size : ℕ} {global print numbered : Bool} {text : List ℕ} {f : ScriptFault} → FlagsFault size global print numbered text f → ℕ
kind_of (o.ends e h x) = 2
kind_of (o.unknown e h a) = 0
kind_of (o.no_number e h n a) = 1
kind_of (o.file e a x) = 119
kind_of (o.global_again e a) = 103
kind_of (o.print_again e a) = 112
kind_of (o.number_again n a) = 1
kind_of (o.global e x) = 103
kind_of (o.print e x) = 112
kind_of (o.number n x) = 1

end_kind : (b : ℕ) → (is_blank b || is_ending b) ≡ true → flag_kind b ≡ 2
end_kind b h = rw (false_from_ne_true (is_digit b) (λ k. digit_no_end b k h), h) refl

unknown_kind : (b : ℕ) → begins_flag b ≡ false → flag_kind b ≡ 0
unknown_kind b h = grind (arith, h)

digit_kind : (b : ℕ) → is_digit b ≡ true → flag_kind b ≡ 1
digit_kind b h = rw h refl

number_kind : {text rest : List ℕ} {n : ℕ} → Number text n rest → head_kind text ≡ 1
number_kind n = let first = number_first n in ap head_kind first.2 ∙ digit_kind first.0 first.3

kind_begins : {size : ℕ} {global print numbered : Bool} {text : List ℕ} {f : ScriptFault} (x : FlagsFault size global print numbered text f)
    → head_kind text ≡ kind_of x
kind_begins (o.ends {b = b} e h x) = ap head_kind e ∙ end_kind b h
kind_begins (o.unknown {b = b} e h a) = ap head_kind e ∙ unknown_kind b h
kind_begins (o.no_number {b = b} e h n a) = ap head_kind e ∙ digit_kind b h
kind_begins (o.file e a x) = ap head_kind e
kind_begins (o.global_again e a) = ap head_kind e
kind_begins (o.print_again e a) = ap head_kind e
kind_begins (o.number_again n a) = number_kind n
kind_begins (o.global e x) = ap head_kind e
kind_begins (o.print e x) = ap head_kind e
kind_begins (o.number n x) = number_kind n

pub flags_fault_one : {size : ℕ} {global print numbered : Bool} {text : List ℕ} {f g : ScriptFault} → FlagsFault size global print numbered text f
    → FlagsFault size global print numbered text g → f ≡ g
flags_fault_one (o.ends e h x) (o.ends i j y) = end_flags_one x y
flags_fault_one (o.unknown e h a) (o.unknown i j b) = ap BadFlag (at_one refl a b)
flags_fault_one (o.no_number e h n a) (o.no_number i j m b) = ap BadFlag (at_one refl a b)
flags_fault_one (o.no_number e h n a) (o.number_again m b) = absurd (n _ _ m)
flags_fault_one (o.no_number e h n a) (o.number m y) = absurd (n _ _ m)
flags_fault_one (o.number_again m a) (o.no_number e h n b) = absurd (n _ _ m)
flags_fault_one (o.number m x) (o.no_number e h n b) = absurd (n _ _ m)
flags_fault_one (o.number_again n a) (o.number_again m b) = ap BadFlag (at_one refl a b)
flags_fault_one (o.file e a x) (o.file i b y) = file_one (rw (at_one refl a b, tails (sym e ∙ i)) at x) y
flags_fault_one (o.global_again e a) (o.global_again i b) = ap BadFlag (at_one refl a b)
flags_fault_one (o.print_again e a) (o.print_again i b) = ap BadFlag (at_one refl a b)
flags_fault_one (o.global e x) (o.global i y) = flags_fault_one x (rw (tails (sym i ∙ e)) at y)
flags_fault_one (o.print e x) (o.print i y) = flags_fault_one x (rw (tails (sym i ∙ e)) at y)
flags_fault_one (o.number n x) (o.number m y) = flags_fault_one x (rw (number_one m n).1 at y)
flags_fault_one x y = absurd (omega (arith, sym (kind_begins x) ∙ kind_begins y))

end_no_flag : {b c : ℕ} → (is_blank b || is_ending b) ≡ true → (is_blank c || is_ending c) ≡ false → b ≢ c
end_no_flag h n e = false≢true (sym n ∙ ap (λ d. is_blank d || is_ending d) (sym e) ∙ h)

end_no_digit : (b : ℕ) → (is_blank b || is_ending b) ≡ true → is_digit b ≡ false
end_no_digit b h = false_from_ne_true (is_digit b) (λ k. digit_no_end b k h)

unknown_no_flag : {b c : ℕ} → begins_flag b ≡ false → begins_flag c ≡ true → b ≢ c
unknown_no_flag h n e = false≢true (sym h ∙ ap begins_flag e ∙ n)

unknown_parts : (b : ℕ) → begins_flag b ≡ false → (is_digit b ≡ false) × (is_blank b ≡ false) × (is_ending b ≡ false)
unknown_parts b h = (grind (arith, h), grind (arith, h), grind (arith, h))

-- of those that are left none may be one that has been read
pub flags_fault_not : {size : ℕ} {global print numbered : Bool} {text rest : List ℕ} {f : ScriptFault} {q : Pattern} {ps : List Part} {s : Substitution}
    → FlagsFault size global print numbered text f → Flags q ps text s rest → (global ≡ true → s.global ≡ false) → (print ≡ true → s.print ≡ false)
    → (numbered ≡ true → s.nth ≡ None) → ⊥
flags_fault_not (o.ends {b = b} e h x) y j k l =
    no_flags_end e (end_no_flag h refl) (end_no_flag h refl) (end_no_flag h refl) (end_no_digit b h) (λ rest i. end_flags_not x i) y
flags_fault_not (o.unknown {b = b} e h a) y j k l =
    let parts = unknown_parts b h in
    no_flag e (unknown_no_flag h refl) (unknown_no_flag h refl) (unknown_no_flag h refl) parts.0 parts.1 parts.2 y
flags_fault_not (o.no_number e h n a) y j k l = no_number e h n y
flags_fault_not (o.file e a x) y j k l = no_file e refl (λ name rest n. file_not x n) y
flags_fault_not (o.global_again e a) (p.global h y z) j k l = false≢true (sym (j refl))
flags_fault_not (o.global_again e a) y j k l = omega (arith, ap head_flag e, flags_begin y)
flags_fault_not (o.print_again e a) (p.print h y z) j k l = false≢true (sym (k refl))
flags_fault_not (o.print_again e a) y j k l = omega (arith, ap head_flag e, flags_begin y)
flags_fault_not (o.number_again n a) (p.number m y z) j k l = absurd (cc (l refl))
flags_fault_not (o.number_again n a) y j k l = omega (arith, number_flag n, flags_begin y)
flags_fault_not (o.global e x) (p.global h y z) j k l = flags_fault_not x (rw (tails e) at y) (λ i. z) k l
flags_fault_not (o.global e x) y j k l = omega (arith, ap head_flag e, flags_begin y)
flags_fault_not (o.print e x) (p.print h y z) j k l = flags_fault_not x (rw (tails e) at y) j (λ i. z) l
flags_fault_not (o.print e x) y j k l = omega (arith, ap head_flag e, flags_begin y)
flags_fault_not (o.number n x) (p.number m y z) j k l = flags_fault_not x (rw (number_one m n).1 at y) j k (λ i. z)
flags_fault_not (o.number n x) y j k l = omega (arith, number_flag n, flags_begin y)

-- ---- Substitutions

patterns_one : {d : ℕ} {text e g r s : List ℕ} {q u : Pattern} → d ≢ 92 → ExpressionText d text e r → IsPattern e q → ExpressionText d text g s
    → IsPattern g u → (q ≡ u) × (r ≡ s)
patterns_one {q = q} n x i y j = let one = expression_one n x.cut y.cut in (pattern_one (subst (λ t. IsPattern t q) one.0 i) j, one.1)

pub substitution_fault_one : {size opening : ℕ} {text : List ℕ} {f g : ScriptFault} → OneCause → SubstitutionFault size opening text f
    → SubstitutionFault size opening text g → f ≡ g
substitution_fault_one one (o.undelimited h) (o.undelimited i) = refl
substitution_fault_one one (o.undelimited h) (o.pattern e d x) = absurd (no_delimiter h e d)
substitution_fault_one one (o.undelimited h) (o.replacement e d x q z) = absurd (no_delimiter h e d)
substitution_fault_one one (o.undelimited h) (o.flags e d x q z k w) = absurd (no_delimiter h e d)
substitution_fault_one one (o.pattern e d x) (o.undelimited h) = absurd (no_delimiter h e d)
substitution_fault_one one (o.replacement e d x q z) (o.undelimited h) = absurd (no_delimiter h e d)
substitution_fault_one one (o.flags e d x q z k w) (o.undelimited h) = absurd (no_delimiter h e d)
substitution_fault_one one (o.pattern e d x) (o.pattern i j y) =
    let same = sym e ∙ i in pattern_fault_one one (no_backslash j) (no_newline j) (rw (heads same, tails same) at x) y
substitution_fault_one one (o.pattern e d x) (o.replacement i j y q z) =
    let same = sym e ∙ i in absurd (pattern_fault_not (no_backslash j) (no_newline j) (rw (heads same, tails same) at x) (_, y, q))
substitution_fault_one one (o.pattern e d x) (o.flags i j y q z k w) =
    let same = sym e ∙ i in absurd (pattern_fault_not (no_backslash j) (no_newline j) (rw (heads same, tails same) at x) (_, y, q))
substitution_fault_one one (o.replacement i j y q z) (o.pattern e d x) =
    let same = sym e ∙ i in absurd (pattern_fault_not (no_backslash j) (no_newline j) (rw (heads same, tails same) at x) (_, y, q))
substitution_fault_one one (o.flags i j y q z k w) (o.pattern e d x) =
    let same = sym e ∙ i in absurd (pattern_fault_not (no_backslash j) (no_newline j) (rw (heads same, tails same) at x) (_, y, q))
substitution_fault_one one (o.replacement e d x q z) (o.replacement i j y u t) =
    let same = sym e ∙ i in
    let patterns = patterns_one (no_backslash j) (rw (heads same, tails same) at x) q y u in
    replacement_fault_one (no_backslash j) (no_newline j) (rw (heads same, patterns.0, patterns.1) at z) t
substitution_fault_one one (o.replacement e d x q z) (o.flags i j y u t k w) =
    let same = sym e ∙ i in
    let patterns = patterns_one (no_backslash j) (rw (heads same, tails same) at x) q y u in
    absurd (replacement_fault_not (no_backslash j) (no_newline j) (rw (heads same, patterns.0, patterns.1) at z) t k)
substitution_fault_one one (o.flags i j y u t k w) (o.replacement e d x q z) =
    let same = sym e ∙ i in
    let patterns = patterns_one (no_backslash j) (rw (heads same, tails same) at x) q y u in
    absurd (replacement_fault_not (no_backslash j) (no_newline j) (rw (heads same, patterns.0, patterns.1) at z) t k)
substitution_fault_one one (o.flags e d x q z k v) (o.flags i j y u t l w) =
    let same = sym e ∙ i in
    let patterns = patterns_one (no_backslash j) (rw (heads same, tails same) at x) q y u in
    let parts = replacement_one (no_backslash j) (rw (heads same, patterns.1) at z) t in
    flags_fault_one (rw parts.1 at v) w

pub substitution_fault_not : {size opening : ℕ} {text rest : List ℕ} {verb : WrittenVerb} {f : ScriptFault} → SubstitutionFault size opening text f
    → VerbText (115 ∷ text) verb rest → ⊥
substitution_fault_not (o.undelimited h) = substitute_no_delimiter (λ d rest e i. no_delimiter h e i) _ _
substitution_fault_not (o.pattern e d x) = substitute_no_pattern e (λ q r y. pattern_fault_not (no_backslash d) (no_newline d) x y) _ _
substitution_fault_not (o.replacement {pattern = q} e d x i z) =
    substitute_no_parts (greatest_group q) q e (λ u r y. patterns_one (no_backslash d) y.1 y.2 x i) refl
    (λ parts r y k. replacement_fault_not (no_backslash d) (no_newline d) z y k) _ _
substitution_fault_not (o.flags {pattern = q} e d x i z k v) =
    substitute_no_flags q (no_backslash d) e (λ u r y. patterns_one (no_backslash d) y.1 y.2 x i) z
    (λ u parts s r y. flags_fault_not v y (λ h. absurd (false≢true h)) (λ h. absurd (false≢true h)) (λ h. absurd (false≢true h))) _ _
