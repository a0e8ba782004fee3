-- The expressions of a script are those of its patterns that aren't empty.
use Rattle.sedck_flow.proofs.Common.{◌≡◌, List, [], ◌∷◌, Contains, refl, sym, ap, subst, inl, inr, arith, Contains-append_left, Contains-append_right, flat_map, Tree, Pattern, Previous, Expression, Command, patterns, pattern_expressions, expressions, Contains-cons_cases, Contains-cons_more, Contains-append_cases}
use Rattle.std.specs.Prelude.{◌↔◌}

is_expression : (ps : List Pattern) (tree : Tree) → Contains ps (Expression tree) → Contains (flat_map pattern_expressions ps) tree
is_expression [] tree h = absurd (omega (arith, h.1))
is_expression (q ∷ ps) tree h =
    elim (Contains-cons_cases q ps (Expression tree) h) [
      | inl is ↦ Contains-append_left (pattern_expressions q) _ tree
          (subst (λ (x : Pattern). Contains (pattern_expressions x) tree) (sym is) (0, omega arith, refl))
      | inr more ↦ Contains-append_right (pattern_expressions q) _ tree (is_expression ps tree more)
    ]

is_own : (q : Pattern) (tree : Tree) → Contains (pattern_expressions q) tree → q ≡ Expression tree
is_own Previous tree h = absurd (omega (arith, h.1))
is_own (Expression own) tree h =
    elim (Contains-cons_cases own [] tree h) [ inl is ↦ ap Expression is | inr none ↦ absurd (omega (arith, none.1)) ]

is_pattern : (ps : List Pattern) (tree : Tree) → Contains (flat_map pattern_expressions ps) tree → Contains ps (Expression tree)
is_pattern [] tree h = absurd (omega (arith, h.1))
is_pattern (q ∷ ps) tree h =
    elim (Contains-append_cases (pattern_expressions q) (flat_map pattern_expressions ps) tree h) [
      | inl here ↦ subst (λ (x : Pattern). Contains (q ∷ ps) x) (is_own q tree here) (0, omega arith, refl)
      | inr more ↦ Contains-cons_more q ps (Expression tree) (is_pattern ps tree more)
    ]

pub expressions_are_patterns : (commands : List Command) (tree : Tree) → Contains (expressions commands) tree ↔ Contains (patterns commands) (Expression tree)
expressions_are_patterns commands tree = (is_pattern (patterns commands) tree, is_expression (patterns commands) tree)
