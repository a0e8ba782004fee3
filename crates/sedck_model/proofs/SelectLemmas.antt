-- Expressions of which none matches a part of a text.
use Rattle.sedck_model.proofs.Common.{◌≡◌, ℕ, ◌+◌, ◌<◌, ◌≤◌, List, [], ◌∷◌, ◌++◌, length, get_or, take, sym, ap, ◌∙◌, subst, Bor, All, take_all, All-contains, Tree, tree, Bre, Program, expressions, StandsFor, HasPartIn, trees_in}
use Rattle.std.proofs.Common.{◌↔◌, Contains}
use Rattle.std.proofs.lemmas.List.{map_more}
use Rattle.std.proofs.lemmas.List.Elements.{All-push}
use Rattle.sedck_commands.specs.Program.{Pattern, Previous, Expression, Command, patterns}
use Rattle.sedck_flow.specs.Patterns.{HasMatch}
use Rattle.sedck_flow.proofs.ExpressionPatterns.{expressions_are_patterns}

abbrev pub HasNone : List ℕ → List Tree → Type 0
HasNone text trees = All (λ t. HasPartIn t text → ⊥) trees

-- one expression more
pub none_more : (text : List ℕ) (found : List (Bor Bre)) (i : ℕ) (e : Bor Bre) → i < length found → e ≡ get_or found i e
    → HasNone text (trees_in (take i found)) → (HasPartIn (tree e.now) text → ⊥) → HasNone text (trees_in (take (i + 1) found))
none_more text found i e below is before here =
    let more : trees_in (take (i + 1) found) ≡ trees_in (take i found) ++ tree e.now ∷ [] =
    map_more (λ (b : Bor Bre). tree b.now) found i e below ∙ ap (λ (b : Bor Bre). trees_in (take i found) ++ tree b.now ∷ []) (sym is) in
    subst (λ trees. HasNone text trees) (sym more) (All-push (λ t. HasPartIn t text → ⊥) (trees_in (take i found)) (tree e.now) before here)

-- an empty pattern stands for the expressions of the script's commands
pub previous_stands : (p : Program) (commands : List Command) (pattern : Pattern) (trees : List Tree) → pattern ≡ Previous → commands ≡ p.commands
    → trees ≡ expressions commands → (t : Tree) → Contains trees t ↔ StandsFor p pattern t
previous_stands p commands pattern trees is_previous same are t =
    subst (λ (q : Pattern). Contains trees t ↔ StandsFor p q t) (sym is_previous)
    (subst (λ (ts : List Tree). Contains ts t ↔ Contains (patterns p.commands) (Expression t)) (sym (are ∙ ap expressions same))
    (expressions_are_patterns p.commands t))

-- all expressions that a pattern stands for
pub none_has : (p : Program) (pattern : Pattern) (text : List ℕ) (found : List (Bor Bre)) (n : ℕ)
    → ((t : Tree) → Contains (trees_in found) t ↔ StandsFor p pattern t) → length found ≤ n → HasNone text (trees_in (take n found))
    → HasMatch p pattern text → ⊥
none_has p pattern text found n each all none (before, middle, after, is, t, stands, groups, match) =
    let here = subst (λ (es : List (Bor Bre)). HasNone text (trees_in es)) (take_all n found all) none in
    All-contains (λ t. HasPartIn t text → ⊥) (trees_in found) t here ((each t).1 stands) (before, middle, after, is, (groups, match))
