-- Texts that are the same begin with the same byte, and the same is after it.
use Rattle.sedck_commands.proofs.Common.{◌≡◌, ℕ, List, ◌∷◌}

pub heads : {a b : ℕ} {s t : List ℕ} → (a ∷ s) ≡ (b ∷ t) → a ≡ b
heads h = cc h

pub tails : {a b : ℕ} {s t : List ℕ} → (a ∷ s) ≡ (b ∷ t) → s ≡ t
tails h = cc h
