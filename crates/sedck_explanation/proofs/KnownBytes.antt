-- What is known of the bytes at a path, and of those that an open file has.
use Rattle.sedck_explanation.proofs.Common.{◌≡◌, ℕ, false, List, Option, Some, None, IfSome, subst, Known}
use Rattle.std.proofs.Common.{codes}
use Rattle.std.specs.Str.{bytes_eq}
use Rattle.sedck_engines.specs.Inputs.{IsRead}
use Rattle.sedck_explanation.specs.Called.{known_bytes}

-- what was read of an open file was read of the bytes that it is known to have
pub read_known : (limit : ℕ) (known left : Option (List ℕ)) (text : List ℕ) → IfSome known (λ bytes. left ≡ Some bytes)
    → IsRead limit left text → IsRead limit known text
read_known limit None left text same is = record { prefix = tt; within = is.within }
read_known limit (Some bytes) left text same is = subst (λ k. IsRead limit k text) same is

-- of a file what is known of its path
pub file_bytes : (k : Known) (path : List ℕ) (left : Option (List ℕ)) → bytes_eq path (codes "-") ≡ false
    → IfSome (k.bytes_at path) (λ bytes. left ≡ Some bytes) → IfSome (known_bytes k path) (λ bytes. left ≡ Some bytes)
file_bytes k path left is same = rw is same
