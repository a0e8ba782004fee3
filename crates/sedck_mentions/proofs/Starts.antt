-- Where lines and paths begin.
use Rattle.std.proofs.Common.{◌≡◌, ◌<◌, ◌≤◌, ◌+◌, ◌++◌, ◌∙◌, ℕ, zero, suc, Bool, true, false, Some, List, [], ◌∷◌, length, get_or, filter, ap, sym, add-one, arith}
use Rattle.std.specs.Prelude.{slice_get, cond, if◌then◌else◌}
use Rattle.std.specs.List.{range_with_len}
use Rattle.std.specs.Option.{option_map_or}
use Rattle.std.proofs.lemmas.List.{map-id}
use Rattle.std.proofs.lemmas.List.FromFn.{filter_of_map_range_with_len_more}
use Rattle.std.proofs.lemmas.Option.{slice_get-get_or}
use Rattle.sedck_mentions.specs.Lines.{start_of}

either : (b : Bool) (m n : ℕ) → m ≤ n → (if b then m else suc n) ≤ suc n
either true m n le = omega arith
either false m n le = omega arith

pub start_of_le : (is : ℕ → Bool) (file : List ℕ) (offset : ℕ) → start_of is file offset ≤ offset
start_of_le is file zero = omega arith
start_of_le is file (suc n) = either (option_map_or is (slice_get file n) false) (start_of is file n) n (start_of_le is file n)

after_byte : (is : ℕ → Bool) (file : List ℕ) (offset byte : ℕ) → slice_get file offset ≡ Some byte
    → start_of is file (suc offset) ≡ (if is byte then start_of is file offset else suc offset)
after_byte is file offset byte at = ap (λ there. if option_map_or is there false then start_of is file offset else suc offset) at

-- the next offset, after a byte
pub start_of_next : (is : ℕ → Bool) (file : List ℕ) (offset byte : ℕ) → offset < length file → get_or file offset 0 ≡ byte
    → start_of is file (offset + 1) ≡ (if is byte then start_of is file offset else offset + 1)
start_of_next is file offset byte within at =
    rw add-one (after_byte is file offset byte (slice_get-get_or file offset 0 within ∙ ap Some at))

-- the numbers below the next one that pass
pub filter_next : (p : ℕ → Bool) (n : ℕ)
    → filter p (range_with_len 0 (n + 1)) ≡ filter p (range_with_len 0 n) ++ cond (p n) (n ∷ []) []
filter_next p n =
    ap (filter p) (sym (map-id (range_with_len 0 (n + 1))))
    ∙ filter_of_map_range_with_len_more p (λ x. x) 0 n n (omega arith)
    ∙ ap (λ numbers. filter p numbers ++ cond (p n) (n ∷ []) []) (map-id (range_with_len 0 n))
