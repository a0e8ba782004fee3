-- Names that were put in order, each once, are the sorted names.
use Rattle.sedck_script.proofs.Common.{◌≡◌, ℕ, ◌+◌, ◌<◌, Bool, cond, true, false, List, [], ◌∷◌, ◌++◌, Contains, length, map, get_or, take, refl, ap, ap₂, sym, ◌∙◌, subst, append-nil, inl, inr, arith, slice_cmp, AllByRecursion, nat_cmp, Ordering, Less, false≢true, nat_list_cmp_total, map_more, flat_map-append, All-from_recursion, All-contains, verb_of, IsBefore, sorted_names, command_of, all_accessed, bytes_eq, nat_list_eq_equiv, on_texts, texts_ties, same_text, dedup, dedup_from, is_eq, tied_itself, Contains-dedup, Contains-from_dedup, IsStrictlySortedBy-dedup, accessed}
use Rattle.std.proofs.Common.{Bor}
use Rattle.std.specs.List.Sorted.{IsPermutation, IsSorted, IsStrictlySortedBy}
use Rattle.std.proofs.lemmas.List.Sorted.{Contains-permutation, IsPermutation-map, IsPermutation-sym}
use Rattle.sedck_commands.specs.declared.names.Access.{Access}
use Rattle.sedck_script.specs.declared.script.Command.{Command}
use Rattle.sedck_script.proofs.SortedNames.{Contains-cons_cases, Contains-cons_more, Rises, rises, sorted_names-same}

-- ---- The names of commands

-- those of one command more
pub names_more : (a : Access) (commands : List Command) (i : ℕ) (command : Command) → i < length commands → command ≡ get_or commands i command
    → all_accessed a (map command_of (take i commands)) ++ accessed a (verb_of command.verb) ≡ all_accessed a (map command_of (take (i + 1) commands))
names_more a commands i command below is =
    let more : map command_of (take (i + 1) commands) ≡ map command_of (take i commands) ++ command_of command ∷ [] =
    map_more command_of commands i command below ∙ ap (λ k. map command_of (take i commands) ++ command_of k ∷ []) (sym is) in
    sym (ap (all_accessed a) more
    ∙ flat_map-append (λ c. accessed a c.verb) (map command_of (take i commands)) (command_of command ∷ [])
    ∙ ap (λ l. all_accessed a (map command_of (take i commands)) ++ l) (append-nil (accessed a (verb_of command.verb))))

-- ---- Lists that rise and have the same names

never_before_itself : (name : List ℕ) → ¬ IsBefore name name
never_before_itself name less = false≢true (ap is_eq (sym less ∙ tied_itself nat_list_cmp_total name))

is_before : (name : List ℕ) (names : List (List ℕ)) → AllByRecursion (IsBefore name) names → (x : List ℕ) → Contains names x → IsBefore name x
is_before name names h x has = All-contains (IsBefore name) names x (All-from_recursion (IsBefore name) names h) has

-- their first names are the same
same_first : (a b : List ℕ) (xs ys : List (List ℕ)) → AllByRecursion (IsBefore a) xs → AllByRecursion (IsBefore b) ys → Contains (b ∷ ys) a
    → Contains (a ∷ xs) b → a ≡ b
same_first a b xs ys h k has_a has_b = elim (Contains-cons_cases b ys a has_a) [
  | inl same ↦ sym same
  | inr later_a ↦ elim (Contains-cons_cases a xs b has_b) [
    | inl same ↦ same
    | inr later_b ↦ absurd (never_before_itself a (nat_list_cmp_total.trans a b a (is_before a xs h b later_b) (is_before b ys k a later_a)))
  ]
]

-- a later name of the one list is a later one of the other
later : (a b : List ℕ) (xs ys : List (List ℕ)) → a ≡ b → AllByRecursion (IsBefore a) xs → (x : List ℕ) → Contains xs x → Contains (b ∷ ys) x → Contains ys x
later a b xs ys same h x has at = elim (Contains-cons_cases b ys x at) [
  | inl first ↦ absurd (never_before_itself a (is_before a xs h a (subst (Contains xs) (sym (same ∙ first)) has)))
  | inr more ↦ more
]

rising_same : (xs ys : List (List ℕ)) → Rises xs → Rises ys → ((x : List ℕ) → Contains xs x → Contains ys x) → ((x : List ℕ) → Contains ys x → Contains xs x)
    → xs ≡ ys
rising_same [] [] h k to back = refl
rising_same [] (b ∷ ys) h k to back = let none = back b (0, omega arith, refl) in absurd (omega (arith, none.1))
rising_same (a ∷ xs) [] h k to back = let none = to a (0, omega arith, refl) in absurd (omega (arith, none.1))
rising_same (a ∷ xs) (b ∷ ys) h k to back =
    let first : a ≡ b = same_first a b xs ys h.0 k.0 (to a (0, omega arith, refl)) (back b (0, omega arith, refl)) in
    ap₂ (λ z zs. z ∷ zs) first
    (rising_same xs ys h.1 k.1 (λ x has. later a b xs ys first h.0 x has (to x (Contains-cons_more a xs x has)))
    (λ x has. later b a ys xs (sym first) k.0 x has (back x (Contains-cons_more b ys x has))))

-- ---- Borrowed names

abbrev Name : Type 0
Name = Bor (List ℕ)

abbrev texts_of : List Name → List (List ℕ)
texts_of names = map (λ n. n.now) names

abbrev name_cmp : Name → Name → Ordering
name_cmp a b = slice_cmp nat_cmp a.now b.now

abbrev same_name : Name → Name → Bool
same_name a b = bytes_eq a.now b.now

texts_behind : (text : List ℕ) (names : List Name) → AllByRecursion (λ n. slice_cmp nat_cmp text n.now ≡ Less) names
    → AllByRecursion (IsBefore text) (texts_of names)
texts_behind text [] h = tt
texts_behind text (name ∷ names) h = (h.0, texts_behind text names h.1)

texts_rise : (names : List Name) → IsStrictlySortedBy name_cmp names → Rises (texts_of names)
unfolding IsStrictlySortedBy
texts_rise [] h = tt
texts_rise (name ∷ names) h = (texts_behind name.now names h.0, texts_rise names h.1)

texts_of-cond : (b : Bool) (us vs : List Name) → texts_of (cond b us vs) ≡ cond b (texts_of us) (texts_of vs)
texts_of-cond true us vs = refl
texts_of-cond false us vs = refl

texts_of-dedup_from : (xs : List Name) (k : Name) → texts_of (dedup_from same_name k xs) ≡ dedup_from bytes_eq k.now (texts_of xs)
texts_of-dedup_from [] k = refl
texts_of-dedup_from (x ∷ xs) k = rw (texts_of-cond, texts_of-dedup_from xs k, texts_of-dedup_from xs x)

texts_of-dedup : (xs : List Name) → texts_of (dedup same_name xs) ≡ dedup bytes_eq (texts_of xs)
texts_of-dedup [] = refl
texts_of-dedup (x ∷ xs) = texts_of-dedup_from xs x

-- names in another order, which is that of bytes, without those that are there again
pub sorted_once : (names moved : List Name) (all : List (List ℕ)) → texts_of names ≡ all → IsPermutation names moved → IsSorted name_cmp moved
    → texts_of (dedup same_name moved) ≡ sorted_names all
sorted_once names moved all are permuted sorted =
    let strict = IsStrictlySortedBy-dedup (on_texts (λ (n : Name). n.now)) (λ x y. texts_ties x.now y.now) moved sorted in
    let same : IsPermutation all (texts_of moved) = subst (λ l. IsPermutation l (texts_of moved)) are (IsPermutation-map (λ (n : Name). n.now) names moved permuted) in
    let once = texts_of-dedup moved in
    rising_same (texts_of (dedup same_name moved)) (sorted_names all) (texts_rise (dedup same_name moved) strict) (rises all)
    (λ x has. (sorted_names-same all x).1 (Contains-permutation (texts_of moved) all x (IsPermutation-sym all (texts_of moved) same)
    (Contains-from_dedup bytes_eq (texts_of moved) x (subst (λ l. Contains l x) once has))))
    (λ x has. subst (λ l. Contains l x) (sym once) (Contains-dedup nat_list_eq_equiv (λ y z e. same_text y z (sym e)) (texts_of moved) x
    (Contains-permutation all (texts_of moved) x same ((sorted_names-same all x).0 has))))
