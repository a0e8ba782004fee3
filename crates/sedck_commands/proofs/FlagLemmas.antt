-- How far the flags of a substitution have been read.
use Rattle.sedck_commands.proofs.Common.{◌≡◌, ◌≢◌, ℕ, Bool, true, false, ◌||◌, List, ◌∷◌, Option, Some, None, is_some, refl, ap, sym, ◌∙◌, arith, or-false, false≢true, both_ways, or_from, is_blank, is_digit, is_ending, Pattern, Part, Substitution, Number, Name, Flags, EndsFlags}
use Rattle.sedck_commands.specs.Parts as p
use Rattle.sedck_commands.proofs.UniqueParts.{ends_first, number_no_byte, with_file, flag_class, head_flag, flags_begin}
use Rattle.sedck_commands.proofs.FirstBytes.{heads, tails}

-- a `w` without a name
pub no_file : {q : Pattern} {ps : List Part} {b : ℕ} {text behind r : List ℕ} {s : Substitution} → text ≡ b ∷ behind → b ≡ 119
    → ((name rest : List ℕ) → Name behind name rest → ⊥) → Flags q ps text s r → ⊥
no_file e h n (p.file i m) = n _ _ (rw (tails e) at m)
no_file e h n x = omega (arith, ap head_flag e ∙ ap flag_class h, flags_begin x)

-- digits that are no number
pub no_number : {q : Pattern} {ps : List Part} {b : ℕ} {text behind r : List ℕ} {s : Substitution} → text ≡ b ∷ behind → is_digit b ≡ true
    → ((n : ℕ) (rest : List ℕ) → Number text n rest → ⊥) → Flags q ps text s r → ⊥
no_number e h n (p.number a x y) = n _ _ a
no_number {b = b} e h n x = let digit : flag_class b ≡ 1 = rw h refl in omega (arith, ap head_flag e, digit, flags_begin x)

-- no end, and no flag
pub no_flags_end : {q : Pattern} {ps : List Part} {b : ℕ} {text behind r : List ℕ} {s : Substitution} → text ≡ b ∷ behind → b ≢ 103 → b ≢ 112
    → b ≢ 119 → is_digit b ≡ false → ((rest : List ℕ) → EndsFlags text rest → ⊥) → Flags q ps text s r → ⊥
no_flags_end e f g h i n (p.none d m) = n _ (d, m)
no_flags_end e f g h i n (p.file d m) = h (heads (sym e) ∙ d)
no_flags_end e f g h i n (p.global d x y) = f (heads (sym e) ∙ d)
no_flags_end e f g h i n (p.print d x y) = g (heads (sym e) ∙ d)
no_flags_end e f g h i n (p.number a x y) = number_no_byte refl i (rw e at a)

-- no flag begins with this byte
pub no_flag : {q : Pattern} {ps : List Part} {b : ℕ} {text behind r : List ℕ} {s : Substitution} → text ≡ b ∷ behind → b ≢ 103 → b ≢ 112 → b ≢ 119
    → is_digit b ≡ false → is_blank b ≡ false → is_ending b ≡ false → Flags q ps text s r → ⊥
no_flag e f g h i j k = no_flags_end e f g h i (λ rest a. both_ways _ (or_from _ _ j k) (ends_first (rw e at a.0)))

-- what has been seen may not be among the others
pub record Fits (global print : Bool) (nth : Option ℕ) (others : Substitution) : Type 0 where
  pub globals : global ≡ true → others.global ≡ false
  pub prints : print ≡ true → others.print ≡ false
  pub numbers : (n : ℕ) → nth ≡ Some n → others.nth ≡ None

abbrev pub joined_nth : Option ℕ → Option ℕ → Option ℕ
joined_nth (Some n) other = Some n
joined_nth None other = other

-- the others with what has been seen
abbrev pub joined : Bool → Bool → Option ℕ → Substitution → Substitution
joined global print nth others = record others { global = global || others.global; print = print || others.print; nth = joined_nth nth others.nth }

-- These flags have been read, and rest is left.
abbrev pub FlagsPassed : List ℕ → Bool → Bool → Option ℕ → List ℕ → Type 0
FlagsPassed text global print nth rest = (q : Pattern) (ps : List Part) (others : Substitution) (r : List ℕ) → Flags q ps rest others r
    → Fits global print nth others → Flags q ps text (joined global print nth others) r

pub flags_global : {text rest behind : List ℕ} {print : Bool} {nth : Option ℕ} → FlagsPassed text false print nth rest
    → rest ≡ 103 ∷ behind → FlagsPassed text true print nth behind
flags_global h e q ps o r x f = h q ps (record o { global = true }) r (rw e (p.global refl x (f.globals refl)))
    (record { globals = λ g. absurd (false≢true g); prints = f.prints; numbers = f.numbers })

pub flags_print : {text rest behind : List ℕ} {global : Bool} {nth : Option ℕ} → FlagsPassed text global false nth rest
    → rest ≡ 112 ∷ behind → FlagsPassed text global true nth behind
flags_print h e q ps o r x f = h q ps (record o { print = true }) r (rw e (p.print refl x (f.prints refl)))
    (record { globals = f.globals; prints = λ g. absurd (false≢true g); numbers = f.numbers })

pub flags_nth : {text rest behind : List ℕ} {global print : Bool} {n : ℕ} → FlagsPassed text global print None rest → Number rest n behind
    → FlagsPassed text global print (Some n) behind
flags_nth {n = n} h a q ps o r x f = h q ps (record o { nth = Some n }) r (p.number a x (f.numbers n refl))
    (record { globals = f.globals; prints = f.prints; numbers = λ k g. absurd (cc g) })

pub some_of : (o : Option ℕ) → is_some o ≡ true → (k : ℕ) × (o ≡ Some k)
some_of (Some k) h = (k, refl)
some_of None h = absurd (false≢true h)

pub none_of : (o : Option ℕ) → is_some o ≡ false → o ≡ None
none_of (Some k) h = absurd (false≢true (sym h))
none_of None h = refl

nth_none : (nth : Option ℕ) → joined_nth nth None ≡ nth
nth_none (Some n) = refl
nth_none None = refl

module _ {text rest : List ℕ} {global print : Bool} {nth : Option ℕ} (h : FlagsPassed text global print nth rest) where
  -- at the end of the flags
  pub flags_end : {behind : List ℕ} → EndsFlags rest behind → (q : Pattern) (ps : List Part)
      → Flags q ps text (record { pattern = q; parts = ps; global = global; print = print; nth = nth; file = None }) behind
  flags_end {behind} e q ps =
      let x = h q ps _ behind (p.none e.0 e.1) (record { globals = λ g. refl; prints = λ g. refl; numbers = λ n g. refl }) in
      rw (or-false global, or-false print, nth_none nth) at x

  pub flags_file : {behind after : List ℕ} (name : List ℕ) → rest ≡ 119 ∷ behind → Name behind name after → (q : Pattern) (ps : List Part)
      → Flags q ps text (record { pattern = q; parts = ps; global = global; print = print; nth = nth; file = Some name }) after
  flags_file {after = after} name e m q ps =
      let x = h q ps (with_file q ps name) after (rw e (p.file refl m)) (record { globals = λ g. refl; prints = λ g. refl; numbers = λ n g. refl }) in
      rw (or-false global, or-false print, nth_none nth) at x
