-- Which commands may be skipped, said in two ways.
use Rattle.sedck_flow.proofs.Common.{◌≡◌, ◌≢◌, ◌⊎◌, Bool, true, false, refl, inl, inr, ◌||◌, false≢true, Address, NoAddress, One, Two, Command, Place, has_address, is_conditional}
use Rattle.std.specs.Prelude.{◌↔◌, IsTrue}

pub one_address : (place : Place) → One place ≢ NoAddress
one_address place is = cc

two_addresses : (first end : Place) → Two first end ≢ NoAddress
two_addresses first end is = cc

conditional_by : (negated : Bool) (a : Address) → IsTrue (negated || has_address a) ↔ ((negated ≡ true) ⊎ (a ≢ NoAddress))
conditional_by true a = (λ h. inl refl, λ h. refl)
conditional_by false NoAddress = (λ h. absurd (false≢true h), λ h. elim h [ inl is ↦ is | inr some ↦ absurd (some refl) ])
conditional_by false (One place) = (λ h. inr (one_address place), λ h. refl)
conditional_by false (Two first end) = (λ h. inr (two_addresses first end), λ h. refl)

-- a command has a `!` or an address
pub conditional : (c : Command) → IsTrue (is_conditional c) ↔ ((c.negated ≡ true) ⊎ (c.address ≢ NoAddress))
conditional c = conditional_by c.negated c.address
