-- Bytes that don't have an origin each.
use Rattle.std.proofs.Common.{◌≡◌, ◌≢◌, ◌&&◌, ℕ, suc, Bool, true, false, List, [], ◌∷◌, length, refl, ap}
use Rattle.sedck_origin.specs.declared.origin.Origin.{Origin}
use Rattle.sedck_origin.specs.Traced.{has_origin, next_after, is_traced_from}

either : (first rest : Bool) → rest ≡ false → false ≡ first && rest
either true rest is = rw is refl
either false rest is = refl

pub untraced : (file : List ℕ) (from : ℕ) (bytes : List ℕ) (origins : List Origin) → length bytes ≢ length origins
    → false ≡ is_traced_from file from bytes origins
untraced file from [] [] differ = absurd (differ refl)
untraced file from [] (origin ∷ origins) differ = refl
untraced file from (byte ∷ bytes) [] differ = refl
untraced file from (byte ∷ bytes) (origin ∷ origins) differ =
    let rest = untraced file (next_after (length file) from origin) bytes origins (λ same. differ (ap suc same)) in
    either (has_origin file from byte origin) _ (cc)
