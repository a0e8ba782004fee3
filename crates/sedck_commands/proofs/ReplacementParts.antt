-- The parts of a replacement, and what flags leave of them.
use Rattle.sedck_commands.proofs.Common.{◌≡◌, ℕ, ◌+◌, ◌≤◌, List, ◌∷◌, length, refl, ap, length-append, arith, AllByRecursion, Pattern, Part, Substitution, part_length, literal_length, EscapedPart, IsPart, Replacement, Flags}
use Rattle.sedck_commands.specs.Parts as p

escaped_size : {b : ℕ} {part : Part} → EscapedPart b part → part_length part ≤ 1
escaped_size (p.line e) = omega arith
escaped_size _ = omega arith

pub replacement_size : {d : ℕ} {text rest : List ℕ} {parts : List Part} → Replacement d text parts rest → literal_length parts + length rest ≤ length text
replacement_size (p.ends h) = omega arith
replacement_size (p.whole h e x) = omega (arith, replacement_size x)
replacement_size (p.escaped h e k x) = omega (arith, replacement_size x)
replacement_size (p.part h e s x) = omega (arith, replacement_size x, escaped_size s)
replacement_size (p.run {b = b} {bytes = bytes} {behind = behind} l x) = omega (arith, replacement_size x, ap length l.cut, length-append (b ∷ bytes) behind)

escaped_part : {b : ℕ} {part : Part} → EscapedPart b part → IsPart part
escaped_part (p.group h k) = (omega arith, omega arith)
escaped_part _ = tt

pub replacement_parts : {d : ℕ} {text rest : List ℕ} {parts : List Part} → Replacement d text parts rest → AllByRecursion IsPart parts
replacement_parts (p.ends h) = tt
replacement_parts (p.whole h e x) = (tt, replacement_parts x)
replacement_parts (p.escaped h e k x) = (tt, replacement_parts x)
replacement_parts (p.part h e s x) = (escaped_part s, replacement_parts x)
replacement_parts (p.run l x) = (tt, replacement_parts x)

-- flags leave the pattern and the parts
pub flags_leave : {pattern : Pattern} {parts : _} {text rest : List ℕ} {s : Substitution} → Flags pattern parts text s rest
    → (s.pattern ≡ pattern) × (s.parts ≡ parts)
flags_leave (p.global e f g) = flags_leave f
flags_leave (p.print e f g) = flags_leave f
flags_leave (p.number n f g) = flags_leave f
flags_leave _ = (refl, refl)
