-- The least length of a text of some expressions, and of more of them.
use Rattle.sedck_script.proofs.Common.{◌≡◌, ℕ, zero, suc, ◌+◌, ◌<◌, List, [], ◌∷◌, ◌++◌, map, length, get_or, take, refl, sym, ap, ◌∙◌, subst, inl, inr, arith, append-nil, true, Option, Some, None, false≢true, map_more, flat_map-append, Contains-append_left, Contains-append_right, Tree, IsLeastSize, Pattern, Command, address_patterns, verb_patterns, patterns, pattern_expressions, expressions, verb_of, command_of, SomeHasLength, has_some, IsLeastOf, min, is_some, unwrap_or, cases_lt, Contains-append_cases, HasLength, cap, lesser, Coded}
use Rattle.std.proofs.Common.{flat_map}
use Rattle.sedck_commands.specs.declared.types.Verb.{Verb}
use Rattle.sedck_commands.specs.declared.types.Substitution.{Substitution}
use Rattle.sedck_commands.specs.declared.types.Verb.TheVariants.{Substitute}

-- the expressions of some patterns
abbrev pub trees_of : List Pattern → List Tree
trees_of given = flat_map pattern_expressions given

-- where nothing has a size, the cap is the least
none_is_cap : IsLeastSize (SomeHasLength []) cap
none_is_cap = record {
  floor = λ m (tree, inside, _). absurd (omega (arith, inside.1));
  met = λ below. absurd (omega (arith, below));
  capped = omega arith;
}

-- the least of one expression
one_is_least : (tree : Tree) (n : ℕ) → IsLeastSize (HasLength tree) n → IsLeastSize (SomeHasLength (tree ∷ [])) n
one_is_least tree n least = record {
  floor = λ m h. least.floor m (only m h);
  met = λ below. (tree, (0, omega arith, refl), least.met below);
  capped = least.capped;
}
  where
    only : (m : ℕ) → SomeHasLength (tree ∷ []) m → HasLength tree m
    only m (other, (zero, below, is), has) = subst (λ (t : Tree). HasLength t m) (sym is) has
    only m (other, (suc k, below, is), has) = absurd (omega (arith, below))

-- the least of two lists of expressions
both_are_least : (xs ys : List Tree) (m n : ℕ) → IsLeastSize (SomeHasLength xs) m → IsLeastSize (SomeHasLength ys) n
    → IsLeastSize (SomeHasLength (xs ++ ys)) (min m n)
both_are_least xs ys m n one two = record {
  floor = λ k (tree, inside, has). elim (Contains-append_cases xs ys tree inside) [
    | inl i ↦ omega (arith, one.floor k (tree, i, has))
    | inr i ↦ omega (arith, two.floor k (tree, i, has))
  ];
  met = λ below. elim (cases_lt m n) [
    | inl less ↦ (
        let is : m ≡ min m n = omega arith in
        let h = one.met (omega arith) in
        (h.0, Contains-append_left xs ys h.0 h.1, subst (λ k. HasLength h.0 k) is h.2))
    | inr more ↦ (
        let is : n ≡ min m n = omega arith in
        let h = two.met (omega arith) in
        (h.0, Contains-append_right xs ys h.0 h.1, subst (λ k. HasLength h.0 k) is h.2))
  ];
  capped = omega (arith, one.capped);
}

-- the expressions of some patterns, and of more
pub trees_of-append : (ps qs : List Pattern) → trees_of (ps ++ qs) ≡ trees_of ps ++ trees_of qs
trees_of-append ps qs = flat_map-append pattern_expressions ps qs

-- a verb that doesn't substitute has no expression
pub no_patterns : (v : Verb) → ((s : Substitution) → v ≡ Substitute s → ⊥) → verb_patterns (verb_of v) ≡ []
no_patterns (Substitute s) not = absurd (not s refl)
no_patterns _ not = refl

-- ---- One command more

patterns-push : (cs : List Command) (c : Command) → patterns (cs ++ c ∷ []) ≡ patterns cs ++ (address_patterns c.address ++ verb_patterns c.verb)
patterns-push cs c = flat_map-append (λ d. address_patterns d.address ++ verb_patterns d.verb) cs (c ∷ [])
    ∙ ap (λ ps. patterns cs ++ ps) (append-nil (address_patterns c.address ++ verb_patterns c.verb))

expressions-push : (cs : List Command) (c : Command)
    → expressions (cs ++ c ∷ []) ≡ expressions cs ++ (trees_of (address_patterns c.address) ++ trees_of (verb_patterns c.verb))
expressions-push cs c =
    ap trees_of (patterns-push cs c) ∙ trees_of-append (patterns cs) (address_patterns c.address ++ verb_patterns c.verb)
    ∙ ap (λ trees. expressions cs ++ trees) (trees_of-append (address_patterns c.address) (verb_patterns c.verb))

-- ---- The least of expressions, where there are some

-- the same expressions, and the same number
pub least_of_same : (xs ys : List Tree) (o p : Option ℕ) → xs ≡ ys → o ≡ p → IsLeastOf ys p → IsLeastOf xs o
least_of_same xs ys o p trees number least = rw (← number) at (subst (λ zs. IsLeastOf zs p) (sym trees) least)

pub one_has_least : (tree : Tree) (n : ℕ) → IsLeastSize (HasLength tree) n → IsLeastOf (tree ∷ []) (Some n)
one_has_least tree n least = (refl, one_is_least tree n least)

pub least_or_cap : (xs : List Tree) (o : Option ℕ) → IsLeastOf xs o → IsLeastSize (SomeHasLength xs) (unwrap_or o cap)
least_or_cap [] None none = none_is_cap
least_or_cap (x ∷ xs) None none = absurd (false≢true (sym none))
least_or_cap xs (Some n) least = least.1

pub some_has_least : (xs : List Tree) (o : Option ℕ) → IsLeastOf xs o → is_some o ≡ has_some xs
some_has_least xs None none = sym none
some_has_least xs (Some n) least = sym least.0

some_append : (xs ys : List Tree) → has_some xs ≡ true → has_some (xs ++ ys) ≡ true
some_append [] ys some = absurd (false≢true some)
some_append (x ∷ xs) ys some = refl

-- the least of two lists of expressions, where there are some
pub lesser_is_least : (xs ys : List Tree) (a b : Option ℕ) → IsLeastOf xs a → IsLeastOf ys b → IsLeastOf (xs ++ ys) (lesser a b)
lesser_is_least [] ys None b none other = other
lesser_is_least (x ∷ xs) ys None b none other = absurd (false≢true (sym none))
lesser_is_least xs [] (Some m) None one none = least_of_same (xs ++ []) xs (Some m) (Some m) (append-nil xs) refl one
lesser_is_least xs (y ∷ ys) (Some m) None one none = absurd (false≢true (sym none))
lesser_is_least xs ys (Some m) (Some n) one two = (some_append xs ys one.0, both_are_least xs ys m n one.1 two.1)

pub command_more : (commands : List Coded) (at : ℕ) (c : Coded) (least a v own all : Option ℕ) → at < length commands → c ≡ get_or commands at c
    → own ≡ lesser a v → all ≡ lesser least own
    → IsLeastOf (expressions (map command_of (take at commands))) least
    → IsLeastOf (trees_of (address_patterns (command_of c).address)) a
    → IsLeastOf (trees_of (verb_patterns (command_of c).verb)) v
    → IsLeastOf (expressions (map command_of (take (at + 1) commands))) all
command_more commands at c least a v own all below is of_command of_all before address verb =
    let more : map command_of (take (at + 1) commands) ≡ map command_of (take at commands) ++ command_of c ∷ [] =
    map_more command_of commands at c below ∙ ap (λ d. map command_of (take at commands) ++ command_of d ∷ []) (sym is) in
    let own_trees = trees_of (address_patterns (command_of c).address) ++ trees_of (verb_patterns (command_of c).verb) in
    let own_least = least_of_same own_trees own_trees own (lesser a v) refl of_command
    (lesser_is_least (trees_of (address_patterns (command_of c).address)) (trees_of (verb_patterns (command_of c).verb)) a v address verb) in
    least_of_same _ _ _ _ (ap expressions more ∙ expressions-push (map command_of (take at commands)) (command_of c)) of_all
    (lesser_is_least (expressions (map command_of (take at commands))) own_trees least own before own_least)
