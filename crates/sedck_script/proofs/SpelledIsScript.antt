-- A script that is spelled keeps the invariant of scripts.
use Rattle.sedck_script.proofs.Common.{◌≡◌, ℕ, ◌+◌, ◌≤◌, Bool, true, false, List, [], ◌∷◌, ◌++◌, length, Contains, refl, length-append, arith, flat_map, AllByRecursion, Ordering, Less, Equal, Greater, nat_cmp, slice_cmp, All-from_recursion, Address, Verb, Command, Program, WrittenVerb, Known, Item, Written, Items, Resolves, done, known, jump, opening, closing, Spells, IsName, names_size, read_names, write_names, placed, with_name, sorted_names, IsReplacement, EndsIn, tail_cut, tail_tail, tail_behind, tail_length, ends_tail, verb_text_tail, sum_by, sum_by-cons, sum_by-append, AreNames, IsScript, address_tail}
use Rattle.sedck_commands.specs.Items as w
use Rattle.sedck_script.proofs.SpelledIsSound.{spelled_targets, spelled_formed, spelled_transliterations}
use Rattle.sedck_script.proofs.SortedNames.{all_weaker, all_append, sorted_names-rise, with_all}
use Rattle.sedck_script.proofs.SizesWithin.{verb_cost, IsBounded, IsCheapWritten, verb_cheap}

-- ---- Items

abbrev item_cost : Item → ℕ
item_cost (Written a n (Known v)) = verb_cost v
item_cost _ = 0

abbrev items_cost : List Item → ℕ
items_cost [] = 0
items_cost (x ∷ items) = item_cost x + items_cost items

abbrev IsBoundedItem : Item → Type 0
IsBoundedItem (Written a n (Known v)) = IsBounded v
IsBoundedItem _ = Unit {0}

written_cheap : (text rest : List ℕ) (a : Address) (n : Bool) (v : WrittenVerb) → IsCheapWritten v text rest
    → IsBoundedItem (Written a n v) × (item_cost (Written a n v) + length rest ≤ length text)
written_cheap text rest a n (Known v) h = (h.bounded, h.cost)
written_cheap text rest a n _ h = (tt, omega arith)

module _ {whole : List ℕ} (few : length whole ≤ 1048576) (zeros : Contains whole 0 → ⊥) where
  items_cheap : {text : List ℕ} {items : List Item} → EndsIn whole text → Items text items
      → AllByRecursion IsBoundedItem items × (items_cost items ≤ length text)
  items_cheap h (w.nothing l) = (tt, omega arith)
  items_cheap h (w.comment l e k r x) =
      let tail = tail_tail (tail_behind (tail_cut l) refl) (tail_cut k) in
      let more = items_cheap (tail_tail h tail) x in (more.0, omega (arith, more.1, tail_length tail))
  items_cheap h (w.closing l e k x) =
      let tail = tail_tail (tail_behind (tail_cut l) refl) (ends_tail k) in
      let more = items_cheap (tail_tail h tail) x in ((tt, more.0), omega (arith, more.1, tail_length tail))
  items_cheap h (w.command {rest = r} {address = a} {negated = n} {verb = v} l c x) =
      let front = tail_tail (tail_cut l) (tail_tail (address_tail c.addresses) (tail_cut c.run)) in
      let one = written_cheap c.begins r a n v (verb_cheap few zeros (tail_tail h front) c.verbs) in
      let more = items_cheap (tail_tail h (tail_tail front (verb_text_tail c.verbs))) x in
      ((one.0, more.0), omega (arith, one.1, more.1, tail_length front))

-- ---- Commands

abbrev commands_cost : List Command → ℕ
commands_cost [] = 0
commands_cost (c ∷ commands) = verb_cost c.verb + commands_cost commands

no_names : {v : Verb} → read_names v ≡ [] → write_names v ≡ [] → IsReplacement v → IsBounded v
no_names e f r = record { reads = rw e tt; writes = rw f tt; one_read = rw e (omega arith); one_write = rw f (omega arith); replacement = r }

commands_cheap : {A cs : List Command} {blocks : List ℕ} {place : ℕ} {items : List Item} → Resolves A blocks place items cs → AllByRecursion IsBoundedItem items
    → AllByRecursion (λ c. IsBounded c.verb) cs × (commands_cost cs ≤ items_cost items)
commands_cheap done h = (tt, omega arith)
commands_cheap (known r) h = let more = commands_cheap r h.1 in ((h.0, more.0), omega (arith, more.1))
commands_cheap (jump {tests = true} t may k r) h = let more = commands_cheap r h.1 in ((no_names refl refl tt, more.0), omega (arith, more.1))
commands_cheap (jump {tests = false} t may k r) h = let more = commands_cheap r h.1 in ((no_names refl refl tt, more.0), omega (arith, more.1))
commands_cheap (opening k r) h = let more = commands_cheap r h.1 in ((no_names refl refl tt, more.0), omega (arith, more.1))
commands_cheap (closing k r) h = let more = commands_cheap r h.1 in (more.0, omega (arith, more.1))

-- ---- Names

-- what is added up over the names doesn't grow by sorting
module _ (f : List ℕ → ℕ) where
  placed_sum : (o : Ordering) (name first : List ℕ) (names others : List (List ℕ)) → sum_by f others ≤ f name + sum_by f names
      → sum_by f (placed o name first names others) ≤ f name + sum_by f (first ∷ names)
  placed_sum Less name first names others h = omega (arith, sum_by-cons f name (first ∷ names))
  placed_sum Equal name first names others h = omega arith
  placed_sum Greater name first names others h = omega (arith, sum_by-cons f first others, sum_by-cons f first names)

  with_sum : (name : List ℕ) (names : List (List ℕ)) → sum_by f (with_name name names) ≤ f name + sum_by f names
  with_sum name [] = omega (arith, sum_by-cons f name [])
  with_sum name (first ∷ names) = placed_sum (slice_cmp nat_cmp name first) name first names (with_name name names) (with_sum name names)

  sorted_sum : (names : List (List ℕ)) → sum_by f (sorted_names names) ≤ sum_by f names
  sorted_sum [] = omega arith
  sorted_sum (name ∷ names) = omega (arith, with_sum name (sorted_names names), sorted_sum names, sum_by-cons f name names)

count_sum : (names : List (List ℕ)) → sum_by (λ n. 1) names ≡ length names
count_sum [] = refl
count_sum (name ∷ names) = omega (arith, sum_by-cons (λ n. 1) name names, count_sum names)

sorted_all : (names : List (List ℕ)) → AllByRecursion IsName names → AllByRecursion IsName (sorted_names names)
sorted_all [] h = tt
sorted_all (name ∷ names) h = with_all IsName name (sorted_names names) h.0 (sorted_all names h.1)

size_append : (xs ys : List (List ℕ)) → names_size (xs ++ ys) ≡ names_size xs + names_size ys
size_append xs ys = sum_by-append (λ n. length n + 1) xs ys

abbrev all_reads : List Command → List (List ℕ)
all_reads cs = flat_map (λ c. read_names c.verb) cs

abbrev all_writes : List Command → List (List ℕ)
all_writes cs = flat_map (λ c. write_names c.verb) cs

costs : (cs : List Command) → names_size (all_reads cs) + names_size (all_writes cs) ≡ commands_cost cs
costs [] = refl
costs (c ∷ cs) = omega (arith, size_append (read_names c.verb) (all_reads cs), size_append (write_names c.verb) (all_writes cs), costs cs)

-- the names that a verb has, of which there is one at most
bounded : (names : Verb → List (List ℕ)) → ((v : Verb) → IsBounded v → AllByRecursion IsName (names v) × (length (names v) ≤ 1))
    → (cs : List Command) → AllByRecursion (λ c. IsBounded c.verb) cs
    → AllByRecursion IsName (flat_map (λ c. names c.verb) cs) × (length (flat_map (λ c. names c.verb) cs) ≤ length cs)
bounded names one [] h = (tt, omega arith)
bounded names one (c ∷ cs) h =
    let here = one c.verb h.0 in
    let more = bounded names one cs h.1 in
    (all_append IsName (names c.verb) _ here.0 more.0, omega (arith, here.1, more.1, length-append (names c.verb) (flat_map (λ d. names d.verb) cs)))

are_names : (names : List (List ℕ)) → AllByRecursion IsName names → length names ≤ 4095 → AreNames (sorted_names names)
are_names names h l = record {
  each = All-from_recursion IsName _ (sorted_all names h);
  increasing = sorted_names-rise names;
  count = omega (arith, sorted_sum (λ n. 1) names, count_sum names, count_sum (sorted_names names), l);
}

-- ---- Scripts

pub spelled_script : {text : List ℕ} {p : Program} → Spells text p → IsScript p
spelled_script {text} {p} s =
    let items = items_cheap s.allowed.fits s.allowed.no_zero ([], refl) s.spelled in
    let commands = commands_cheap s.commands.resolved items.0 in
    let read = bounded read_names (λ v b. (b.reads, b.one_read)) p.commands commands.0 in
    let written = bounded write_names (λ v b. (b.writes, b.one_write)) p.commands commands.0 in
    let read_size = sorted_sum (λ n. length n + 1) (all_reads p.commands) in
    let written_size = sorted_sum (λ n. length n + 1) (all_writes p.commands) in
    record {
      count = s.commands.allowed.count;
      targets = spelled_targets s;
      formed = spelled_formed s;
      replacements = All-from_recursion _ p.commands (all_weaker _ (λ c. IsReplacement c.verb) (λ c h. h.replacement) p.commands commands.0);
      transliterations = spelled_transliterations s;
      expression = s.commands.allowed.expression;
      read = are_names (all_reads p.commands) read.0 (omega (arith, read.1, s.commands.allowed.count));
      written = are_names (all_writes p.commands) written.0 (omega (arith, written.1, s.commands.allowed.count));
      names = omega (arith, read_size, written_size, costs p.commands, commands.1, items.1, s.allowed.fits);
    }
