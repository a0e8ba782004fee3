-- What no match has less than as its rest, no wide match has less than.
use Rattle.sedck_flow.proofs.Common.{ℕ, ◌+◌, ◌≤◌, List, length, Contains, sym, subst, arith, All-contains, AreDifferentTopGroups, IsWellFormed, texts_length, Tree, Groups, no_groups, WideMatch, AreWellFormed, Pattern, Previous, Expression, Substitution, Program, expressions, named_groups, AreDistinct, AreTopGroups, KeepsGroups, StandsFor, AreRestsAtLeast, wide_rest_of}
use Rattle.sedck_flow.proofs.References.{different_groups, no_groups_of_previous}

different : (p : Program) (pattern : Pattern) (tree : Tree) (ks : List ℕ) → StandsFor p pattern tree → AreDistinct ks → AreTopGroups pattern ks
    → AreDifferentTopGroups tree ks
different p Previous tree ks is distinct top = subst (AreDifferentTopGroups tree) (sym (no_groups_of_previous ks top)) tt
different p (Expression own) tree ks is distinct top = subst (λ (t : Tree). AreDifferentTopGroups t ks) (sym is) (different_groups own ks distinct top)

-- the expression that a pattern stands for is one of the script
abbrev pub IsOfScript : Program → Pattern → Type 0
IsOfScript p pattern = (tree : Tree) → StandsFor p pattern tree → Contains (expressions p.commands) tree

pub wide_rests : (p : Program) → AreWellFormed p → (s : Substitution) → IsOfScript p s.pattern → KeepsGroups s.pattern s.parts → (n : ℕ)
    → AreRestsAtLeast p s n → (tree : Tree) (text : List ℕ) (groups : Groups) → StandsFor p s.pattern tree → WideMatch tree no_groups text groups
    → n + texts_length groups (named_groups s.parts) ≤ length text
wide_rests p formed s known keeps n least tree text groups is m =
    let whole = All-contains IsWellFormed (expressions p.commands) tree formed (known tree is) in
    let floor = wide_rest_of tree whole (named_groups s.parts) (different p s.pattern tree (named_groups s.parts) is keeps.distinct keeps.top) in
    let met = floor.1.1 in
    omega (arith, floor.1.0 text groups m, met.3, least tree met.0 met.1 is met.2)
