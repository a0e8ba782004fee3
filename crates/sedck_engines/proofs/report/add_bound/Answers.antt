use Rattle.sedck_engines.proofs.Common.{◌≡◌, ℕ, List, ◌++◌, ap, ◌∙◌, append_assoc, codes, decimal, line}
use Rattle.sedck_engines.proofs.report.add_bound.Goals as goal

-- the words, whichever way their parts are put together
spaced : (a b d : List ℕ) → codes "bound " ++ (a ++ (codes " " ++ (b ++ (codes " " ++ d)))) ≡ codes "bound " ++ a ++ codes " " ++ b ++ codes " " ++ d
spaced a b d = simp append_assoc

-- the line of the bound
pub returns-in_ok-add_line : goal.returns-in_ok-add_line
returns-in_ok-add_line c =
    rw c.in-Some.is (c.in_ok-add_line.ensures
    ∙ ap (λ t. c.args.report.now.items ++ line t)
    (c.as_bytes.ensures.value ∙ c.in_ok-words.ensures.ok
    ∙ spaced (decimal c.in-Some.bound.per_byte) (decimal c.in-Some.bound.per_line) (decimal c.in-Some.bound.fixed)))
