-- What becomes of a certificate of version 1.
use Rattle.sedck_cert.proofs.Common.{◌≡◌, ℕ, ◌*◌, List, [], ◌∷◌, length, Option, refl, arith, AllByRecursion, recursion_from_All, All-from_recursion, Certificate, IsCertificate, AreWithin, doubled, upgraded, One, Two}

-- ---- Each entry twice

length-doubled : (all : List (Option (ℕ × ℕ))) → length (doubled all) ≡ 2 * length all
length-doubled [] = refl
length-doubled (r ∷ all) = omega (arith, length-doubled all)

doubled_within : (all : List (Option (ℕ × ℕ))) → AllByRecursion AreWithin all → AllByRecursion AreWithin (doubled all)
doubled_within [] within = tt
doubled_within (r ∷ all) within = (within.0, (within.0, doubled_within all within.1))

-- an upgraded certificate is within the limits
pub upgraded_is : (c : Certificate) → IsCertificate One c → IsCertificate Two (upgraded c)
upgraded_is c h = record {
  commands = h.commands;
  nodes = omega (arith, length-doubled c.ranks, h.nodes);
  ranks = All-from_recursion AreWithin (doubled c.ranks) (doubled_within c.ranks (recursion_from_All AreWithin c.ranks h.ranks));
  reads = h.reads;
  writes = h.writes;
  size = h.size;
}
