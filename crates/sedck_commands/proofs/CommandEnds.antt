-- Ends of commands.
use Rattle.sedck_commands.proofs.Common.{◌≡◌, ◌∙◌, ℕ, false, List, ◌∷◌, subst, both_ways, is_blank, is_ending, IsEmptyOr, Longest, Ends, longest_one}

-- after the blanks is a byte that ends no command
pub no_end : {text blanks begins more rest : List ℕ} {b : ℕ} → Longest is_blank text blanks begins → begins ≡ b ∷ more → is_ending b ≡ false
    → Ends text rest → ⊥
no_end {b = b} l f other e = both_ways (is_ending b) other (subst (λ t. IsEmptyOr is_ending t) ((longest_one e.run l).1 ∙ f) e.ending)
