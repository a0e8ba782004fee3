-- The search for the element that has a byte: what is still searched, after the elements before it.
use Rattle.sedck_expressions.proofs.Common.{◌≡◌, ℕ, zero, suc, ◌<◌, ◌≤◌, Bool, true, false, List, length, Err, Ok, sym, arith, nat_lt, nat_tests, Element, element_at, Flaw}
use Rattle.sedck_expressions.specs.BracketReading.{holder}

-- what holds the byte is what holds it from this text on
pub record IsSought (found : List ℕ) (left : ℕ) (first : Bool) (text : List ℕ) : Type 0 where
  pub bound : ℕ
  pub enough : length text ≤ bound
  pub is : holder bound left first text ≡ found

module _ {found : List ℕ} {left : ℕ} {first : Bool} {text : List ℕ} (sought : IsSought found left first text) where
  -- no element is read
  pub held_by_rest : (flaw : Flaw) → element_at first text ≡ Err flaw → found ≡ text
  unfolding holder
  held_by_rest flaw none = go sought.bound sought.is
    where
      go : (n : ℕ) → holder n left first text ≡ found → found ≡ text
      go zero is = sym is
      go (suc n) is = sym (rw none at is)

  module _ (e : Element) (rest : List ℕ) (one : element_at first text ≡ Ok (e, rest)) (less : length rest < length text) where
    pub held_here : length rest < left → found ≡ text
    unfolding holder
    held_here short = go sought.bound sought.enough sought.is
      where
        yes : nat_lt (length rest) left ≡ true
        yes = grind (arith, nat_tests, short)

        go : (n : ℕ) → length text ≤ n → holder n left first text ≡ found → found ≡ text
        go zero enough is = absurd (omega (arith, less, enough))
        go (suc n) enough is = sym (rw (one, yes) at is)

    pub held_after : left ≤ length rest → IsSought found left false rest
    unfolding holder
    held_after long = go sought.bound sought.enough sought.is
      where
        no : nat_lt (length rest) left ≡ false
        no = grind (arith, nat_tests, long)

        go : (n : ℕ) → length text ≤ n → holder n left first text ≡ found → IsSought found left false rest
        go zero enough is = absurd (omega (arith, less, enough))
        go (suc n) enough is = record { bound = n; enough = omega (arith, less, enough); is = rw (one, no) at is }
