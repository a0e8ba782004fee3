-- The length of the literal parts of a replacement, part after part.
use Rattle.sedck_commands.proofs.Common.{◌≡◌, ℕ, zero, suc, ◌+◌, ◌<◌, ◌≤◌, List, [], ◌∷◌, map, length, get_or, take, ap, ◌∙◌, arith, get_or-map, length-map, Part, part_length, literal_length, part_of, Coded}
use Rattle.sedck_commands.specs.declared.types.Part.TheVariants.{Text as PartText}

pub length_more : (ps : List Part) (i : ℕ) (z : Part) → i < length ps
    → literal_length (take (suc i) ps) ≡ literal_length (take i ps) + part_length (get_or ps i z)
length_more [] i z below = absurd (omega arith)
length_more (p ∷ ps) zero z below = omega arith
length_more (p ∷ ps) (suc i) z below = omega (arith, length_more ps i z (omega arith))

pub length_take_le : (ps : List Part) (i : ℕ) → literal_length (take i ps) ≤ literal_length ps
length_take_le ps zero = omega arith
length_take_le [] (suc i) = omega arith
length_take_le (p ∷ ps) (suc i) = omega (arith, length_take_le ps i)

-- ---- The same of the code's parts

-- what the code reads past the end of the parts
abbrev pub filler_part : Coded
filler_part = PartText (record { ref_ptr = (0, 0); now = [] })

module _ (parts : List Coded) (i : ℕ) (z : Coded) (below : i < length parts) where
  same : get_or (map part_of parts) i (part_of z) ≡ part_of (get_or parts i z)
  same = get_or-map part_of parts i z (part_of z) below

  inside : i < length (map part_of parts)
  inside = omega (arith, length-map parts part_of)

  pub coded_length_more : literal_length (take (suc i) (map part_of parts)) ≡ literal_length (take i (map part_of parts)) + part_length
      (part_of (get_or parts i z))
  coded_length_more = length_more (map part_of parts) i (part_of z) inside ∙ ap (λ (x : Part). literal_length (take i (map part_of parts)) + part_length x) same
