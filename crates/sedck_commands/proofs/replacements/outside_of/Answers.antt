use Rattle.sedck_commands.proofs.Common.{◌≡◌, ℕ, List, map, Some, ap, sym, subst, All, Tree, Pattern, Expression, Part, IsPart, kept_from, KeepsGroups, named_groups, pattern_of, part_of, recursion_from_All, IsOutside, IsLeastOutside}
use Rattle.sedck_commands.proofs.ReferenceLemmas.{Keeps, kept_keeps, none_kept, keeps_groups, names_top, outside_named}
use Rattle.sedck_commands.proofs.replacements.outside_of.Goals as goal

pub returns-in_err-groups : goal.returns-in_err-groups
returns-in_err-groups c =
    let parts = map part_of c.args.parts.now in
    let fails = none_kept (pattern_of c.args.pattern.now) parts (sym c.in_err-groups.ensures) in
    subst (IsOutside (pattern_of c.args.pattern.now) parts) (sym c.from_residual.ensures) fails

pub returns-in-Previous : goal.returns-in-Previous
returns-in-Previous c =
    let parts = map part_of c.args.parts.now in
    let read = recursion_from_All IsPart parts c.requires in
    let kept = kept_keeps (pattern_of c.args.pattern.now) 0 parts c.in_ok-groups.groups read (sym c.in_ok-groups.ensures) in
    (keeps_groups kept, subst (λ p. IsLeastOutside p (named_groups parts) 0) (sym (ap pattern_of c.in-Previous.is)) tt)

-- what was read of an expression's replacement
kept_of : {tree : Tree} {bits : ℕ} {pattern : Pattern} {parts : List Part} → pattern ≡ Expression tree → All IsPart parts
    → Some bits ≡ kept_from pattern (Some 0) parts
    → Keeps (Expression tree) 0 parts bits
kept_of {bits = bits} {parts = parts} is h read = kept_keeps _ 0 parts bits (recursion_from_All IsPart parts h) (rw is at (sym read))

pub least_outside-requires : goal.least_outside-requires
least_outside-requires c = names_top (kept_of (ap pattern_of c.in-Expr.is) c.requires c.in_ok-groups.ensures)

pub returns-in-Expr : goal.returns-in-Expr
returns-in-Expr c =
    let parts = map part_of c.args.parts.now in
    let is = ap pattern_of c.in-Expr.is in
    let kept = kept_of is c.requires c.in_ok-groups.ensures in
    subst (λ p. KeepsGroups p parts × IsLeastOutside p (named_groups parts) c.least_outside.result) (sym is)
    (keeps_groups kept, outside_named kept c.least_outside.ensures.least)
