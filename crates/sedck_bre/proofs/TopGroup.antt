-- The items of an expression, and whether a group is one of them.
use Rattle.sedck_bre.proofs.Common.{◌≡◌, ℕ, false, List, [], ◌∷◌, length, length-append, map, refl, sym, ap, ◌∙◌, arith, ◌||◌, list_any, Tree, Trees, Group, Nil, Then, trees, groups_in, groups_in_all, tree, is_group, is_item, is_top_group, Bre, Vec, Global, group_count, node_tree, HasTopGroups, names_zero, Bre-F, roll-Bre, out-Bre, roll-out-Bre, fold-roll-Bre}
use Rattle.sedck_expressions.specs.Tree as spec
use Rattle.sedck_expressions.specs.declared.tree.Bre.TheVariants.{Seq, rolls-Seq}

pub item_any : (k : ℕ) (xs : List Bre) → list_any (λ b. is_group k (tree b)) xs ≡ is_item k (trees (map tree xs))
item_any k [] = refl
item_any k (x ∷ xs) = ap (λ r. is_group k (tree x) || r) (item_any k xs)

-- an expression that is no list of items has no group as an item
pub no_list : (b : Bre) → ((items : Vec Bre Global) → b ≡ Seq items → ⊥) → (k : ℕ) → is_top_group (tree b) k ≡ false
no_list b other k = go (out-Bre b) (roll-out-Bre b)
  where
    go : (n : Bre-F Bre) → roll-Bre n ≡ b → is_top_group (tree b) k ≡ false
    go (Bre-F.Seq items) is = absurd (other items (sym is ∙ rolls-Seq items))
    go n is = ap (λ x. is_top_group (tree x) k) (sym is) ∙ ap (λ t. is_top_group t k) (fold-roll-Bre Tree node_tree n)

no_group : (k : ℕ) (t : Tree) → group_count t ≡ 0 → is_group k t ≡ false
no_group k (Group j body) none = absurd (grind (arith, none))
no_group k t none = refl

no_item : (k : ℕ) (ts : Trees) → length (groups_in_all ts) ≡ 0 → is_item k ts ≡ false
no_item k Nil none = refl
no_item k (Then t ts) none =
    let both = length-append (groups_in t) (groups_in_all ts) in
    rw (no_group k t (omega (arith, both, none)), no_item k ts (omega (arith, both, none))) refl

-- without groups, the bits are 0
pub no_groups : (t : Tree) → group_count t ≡ 0 → HasTopGroups t 0
no_groups (spec.Seq ts) none k l = names_zero k ∙ sym (no_item k ts none)
no_groups t none k l = names_zero k
