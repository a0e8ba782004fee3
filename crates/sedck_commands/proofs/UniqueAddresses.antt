-- Where an address is, and where there is none.
use Rattle.sedck_commands.proofs.Common.{◌≡◌, ℕ, true, List, [], ◌∷◌, refl, subst, both_ways, not-true, Place, PlaceText, begins_address, EndsIn, BeginsNoAddress}
use Rattle.sedck_commands.specs.Parts as p
use Rattle.sedck_commands.proofs.UniqueItems.{place_first}
use Rattle.sedck_commands.proofs.OffsetLemmas.{tail_cons, number_tail, expression_tail}

pub begins_no : {b : ℕ} {more text : List ℕ} → text ≡ b ∷ more → begins_address b ≡ true → BeginsNoAddress text → ⊥
begins_no {b} e h n = both_ways (begins_address b) (not-true (begins_address b) (subst (λ t. BeginsNoAddress t) e n)) h

pub no_place : {text r : List ℕ} {q : Place} → BeginsNoAddress text → PlaceText text q r → ⊥
no_place n x = let f = place_first x in begins_no f.2 f.3 n

pub place_tail : {text r : List ℕ} {q : Place} → PlaceText text q r → EndsIn text r
place_tail (p.line n) = number_tail n
place_tail (p.last {b = b} e) = (b ∷ [], refl)
place_tail (p.context {b = b} e x y) = tail_cons b (expression_tail x.cut)
place_tail (p.custom {b = b} {delimiter = d} e i x y) = tail_cons b (tail_cons d (expression_tail x.cut))
