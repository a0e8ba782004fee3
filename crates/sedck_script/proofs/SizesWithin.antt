-- The names and the replacements of a script's verbs lie in its text.
use Rattle.sedck_script.proofs.Common.{◌≡◌, ℕ, ◌+◌, ◌≤◌, true, not, List, [], length, Option, Some, None, Contains, refl, ap, sym, subst, length-append, arith, AllByRecursion, list_all, false≢true, All-from_recursion, All-contains, Contains-append_left, Contains-append_right, is_newline, Pattern, Part, Verb, WrittenVerb, Known, Simple, VerbText, IsName, names_size, read_names, write_names, IsReplacement, EndsIn, flags_leave, tail_cut, tail_tail, tail_behind, tail_length, ends_tail, verb_text_tail, option_to_list, AllPass-from_list_all, IsPart, Name, Flags, replacement_size, replacement_parts, expression_tail, replacement_tail, number_tail}
use Rattle.sedck_commands.specs.Program.{Substitution}
use Rattle.sedck_commands.specs.Parts as p
use Rattle.sedck_commands.specs.Items as w

-- ---- Names

contains_tail : {whole text : List ℕ} → EndsIn whole text → (x : ℕ) → Contains text x → Contains whole x
contains_tail {whole} {text} h x k = subst (λ t. Contains t x) (sym h.1) (Contains-append_right h.0 text x k)

no_newline : (name : List ℕ) → list_all (λ b. not (is_newline b)) name ≡ true → Contains name 10 → ⊥
no_newline name h k = false≢true (All-contains (λ b. not (is_newline b) ≡ true) name 10 (AllPass-from_list_all (λ b. not (is_newline b)) name h) k)

-- a name that is read is a name, where the script has no byte 0
pub name_is : {whole text name rest : List ℕ} → (Contains whole 0 → ⊥) → EndsIn whole text → Name text name rest → IsName name
name_is {name = name} {rest = rest} zeros h n = record {
  some = n.some;
  one_line = no_newline name n.run.passes;
  no_zero = λ k. zeros (contains_tail (tail_tail h (tail_cut n.skipped)) 0 (subst (λ t. Contains t 0) (sym n.run.cut) (Contains-append_left name rest 0 k)));
}

pub name_size : {text name rest : List ℕ} → Name text name rest → length name + length rest ≤ length text
name_size {name = name} {rest = rest} n = omega (arith, ap length n.skipped.cut, length-append n.blanks n.begins, ap length n.run.cut, length-append name rest)

-- what holds of a substitution's file
pub flags_file : {pattern : Pattern} {parts : List Part} {whole text rest : List ℕ} {s : Substitution} → (Contains whole 0 → ⊥) → EndsIn whole text
    → Flags pattern parts text s rest
    → AllByRecursion IsName (option_to_list s.file) × (names_size (option_to_list s.file) + length rest ≤ length text)
flags_file zeros h (p.none e m) = (tt, omega (arith, tail_length (ends_tail e)))
flags_file zeros h (p.file {b = b} e n) = ((name_is zeros (tail_behind h refl) n, tt), omega (arith, name_size n))
flags_file zeros h (p.global e f g) = let more = flags_file zeros (tail_behind h refl) f in (more.0, omega (arith, more.1))
flags_file zeros h (p.print e f g) = let more = flags_file zeros (tail_behind h refl) f in (more.0, omega (arith, more.1))
flags_file zeros h (p.number n f g) = let more = flags_file zeros (tail_tail h (number_tail n)) f in
    (more.0, omega (arith, more.1, tail_length (number_tail n)))

-- ---- Verbs

-- the bytes of a verb's names, with a newline each
abbrev pub verb_cost : Verb → ℕ
verb_cost v = names_size (read_names v) + names_size (write_names v)

-- what holds of a verb in a script
pub record IsBounded (v : Verb) : Type 0 where
  pub reads : AllByRecursion IsName (read_names v)
  pub writes : AllByRecursion IsName (write_names v)
  pub one_read : length (read_names v) ≤ 1
  pub one_write : length (write_names v) ≤ 1
  pub replacement : IsReplacement v

pub record IsCheap (v : Verb) (text rest : List ℕ) : Type 0 where
  pub bounded : IsBounded v
  pub cost : verb_cost v + length rest ≤ length text

-- a verb without names and replacements
plain : {v : Verb} {text rest : List ℕ} → read_names v ≡ [] → write_names v ≡ [] → IsReplacement v → length rest ≤ length text → IsCheap v text rest
plain e f r l =
    record {
      bounded = record { reads = rw e tt; writes = rw f tt; one_read = rw e (omega arith); one_write = rw f (omega arith); replacement = r };
      cost = rw (e, f) (omega (arith, l));
    }

simple_cheap : {b : ℕ} {text rest : List ℕ} {v : Verb} → Simple b v → length rest ≤ length text → IsCheap v text rest
simple_cheap w.line_number l = plain refl refl tt l
simple_cheap _ l = plain refl refl tt l

one_file : (o : Option (List ℕ)) → length (option_to_list o) ≤ 1
one_file None = omega arith
one_file (Some name) = omega arith

abbrev pub IsCheapWritten : WrittenVerb → List ℕ → List ℕ → Type 0
IsCheapWritten (Known v) text rest = IsCheap v text rest
IsCheapWritten _ text rest = length rest ≤ length text

module _ {whole : List ℕ} (few : length whole ≤ 1048576) (zeros : Contains whole 0 → ⊥) where
  pub verb_cheap : {text rest : List ℕ} {v : WrittenVerb} → EndsIn whole text → VerbText text v rest → IsCheapWritten v text rest
  verb_cheap h (w.simple x e) = simple_cheap x (tail_length (verb_text_tail (w.simple x e)))
  verb_cheap h (w.jump b l n e brace) = tail_length (verb_text_tail (w.jump b l n e brace))
  verb_cheap h (w.jump_to_end b n e brace) = tail_length (verb_text_tail (w.jump_to_end b n e brace))
  verb_cheap h (w.opening b) = omega arith
  verb_cheap h (w.read b n) = record {
    bounded = record { reads = (name_is zeros (tail_behind h refl) n, tt); writes = tt; one_read = omega arith; one_write = omega arith; replacement = tt };
    cost = omega (arith, name_size n);
  }
  verb_cheap h (w.write b n) = record {
    bounded = record { reads = tt; writes = (name_is zeros (tail_behind h refl) n, tt); one_read = omega arith; one_write = omega arith; replacement = tt };
    cost = omega (arith, name_size n);
  }
  verb_cheap h (w.substitute {substitution = s} b d x y z g f) =
      let behind = tail_tail (tail_behind (tail_behind h refl) refl) (expression_tail x.cut) in
      let file = flags_file zeros (tail_tail behind (replacement_tail z)) f in
      record {
        bounded = record {
          reads = tt;
          writes = file.0;
          one_read = omega arith;
          one_write = one_file s.file;
          replacement = (
            rw (flags_leave f).1 (omega (arith, replacement_size z, tail_length behind, few)),
            rw (flags_leave f).1 (All-from_recursion IsPart _ (replacement_parts z)),
          );
        };
        cost = omega (arith, file.1, tail_length (expression_tail x.cut), tail_length (replacement_tail z));
      }
  verb_cheap h x = plain refl refl tt (tail_length (verb_text_tail x))
