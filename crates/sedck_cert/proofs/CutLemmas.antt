-- A text is cut at its first such byte in one way only, and what a decimal and such a byte begin is cut there.
use Rattle.sedck_cert.proofs.Common.{◌≡◌, ℕ, zero, suc, ◌^◌, ◌<◌, ◌≤◌, List, [], ◌∷◌, ◌++◌, Contains, Option, Some, None, codes, append_assoc, refl, sym, ◌∙◌, ap, arith, IsInRange, All-contains, Bor, append_cancel_left, AreWithin, ranks_text, IsCut, All-from_get_or, Contains-cons_more, IsBehind}
use Rattle.std.proofs.Common.{MatchOption}
use Rattle.std.specs.Fmt.{decimal}
use Rattle.sedck_cert.proofs.Decimals.{decimal-digit}

-- two cuts of one text at one byte
pub parts_one : (byte : ℕ) (f g r s : List ℕ) → (Contains f byte → ⊥) → (Contains g byte → ⊥) → f ++ byte ∷ r ≡ g ++ byte ∷ s → (f ≡ g) × (r ≡ s)
parts_one byte [] [] r s hf hg e = (refl, cc)
parts_one byte [] (b ∷ g) r s hf hg e = absurd (hg (0, omega arith, let h : b ≡ byte = cc in h))
parts_one byte (b ∷ f) [] r s hf hg e = absurd (hf (0, omega arith, let h : b ≡ byte = cc in h))
parts_one byte (b ∷ f) (c ∷ g) r s hf hg e =
    let tails : f ++ byte ∷ r ≡ g ++ byte ∷ s = cc in
    let heads : b ≡ c = cc in
    let both : (f ≡ g) × (r ≡ s) = parts_one byte f g r s (λ h. hf (Contains-cons_more b f byte h)) (λ h. hg (Contains-cons_more c g byte h)) tails in
    (cc (heads, both.0), both.1)

pub cut_one : (byte : ℕ) (text f r g s : List ℕ) → IsCut byte text f r → IsCut byte text g s → (f ≡ g) × (r ≡ s)
cut_one byte text f r g s a b = parts_one byte f g r s a.none b.none (sym a.is_text ∙ b.is_text)

pub has_byte : (byte : ℕ) (text f r : List ℕ) → text ≡ f ++ byte ∷ r → Contains text byte
has_byte byte text [] r e = rw e (0, omega arith, refl)
has_byte byte text (b ∷ f) r e = rw e (Contains-cons_more b (f ++ byte ∷ r) byte (has_byte byte (f ++ byte ∷ r) f r refl))

pub decimal-in_range : (n byte : ℕ) → n < 2 ^ 64 → Contains (decimal n) byte → IsInRange 48 57 byte
decimal-in_range n byte small has = All-contains (IsInRange 48 57) (decimal n) byte
    (All-from_get_or (IsInRange 48 57) (decimal n) 0 (λ k within. decimal-digit (decimal n) n k small refl within)) has

-- a byte below the digits
pub decimal-lacks : (n byte : ℕ) → n < 2 ^ 64 → byte < 48 → Contains (decimal n) byte → ⊥
decimal-lacks n byte small below has = let range = decimal-in_range n byte small has in omega (arith, range)

pub decimal-cut : (text f r s : List ℕ) (n byte : ℕ) → n < 2 ^ 64 → byte < 48 → IsCut byte text f r → text ≡ decimal n ++ byte ∷ s → (f ≡ decimal n) × (r ≡ s)
decimal-cut text f r s n byte small below cut is = cut_one byte text f r (decimal n) s cut (record { none = decimal-lacks n byte small below; is_text = is })

pub dash_lacks : (byte : ℕ) → byte < 45 → Contains (codes "-") byte → ⊥
dash_lacks byte below (zero, within, is) = let e : 45 ≡ byte = is in omega arith
dash_lacks byte below (suc k, within, is) = omega arith

-- the two decimals of ranks
pub ranks_parts : (text first second : List ℕ) (ranks : Option (ℕ × ℕ)) → AreWithin ranks → IsCut 32 text first second → text ≡ ranks_text ranks
    → (m n : ℕ) × (m ≤ 65535) × (n ≤ 65535) × (first ≡ decimal m) × (second ≡ decimal n) × (ranks ≡ Some (m, n))
ranks_parts text first second None within cut is = absurd (dash_lacks 32 (omega arith) (has_byte 32 (codes "-") first second (sym is ∙ cut.is_text)))
ranks_parts text first second (Some r) within cut is =
    let both = decimal-cut text first second (decimal r.1) r.0 32 (omega (arith, within.0)) (omega arith) cut
    (is ∙ append_assoc (decimal r.0) (codes " ") (decimal r.1)) in
    (r.0, r.1, within.0, within.1, both.0, both.1, refl)

-- ---- The words of a node, each with a space after it

-- a text that begins with the two words of a text that begins with the first
words_on : (text a b mid rest : List ℕ) → text ≡ a ++ 32 ∷ mid → mid ≡ b ++ 32 ∷ rest → text ≡ (a ++ codes " " ++ b) ++ 32 ∷ rest
words_on text a b mid rest is more = is ∙ ap (λ t. a ++ 32 ∷ t) more ∙ simp append_assoc

words_apart : (text a b rest : List ℕ) → text ≡ (a ++ codes " " ++ b) ++ 32 ∷ rest → text ≡ a ++ 32 ∷ (b ++ 32 ∷ rest)
words_apart text a b rest is = is ∙ simp append_assoc

-- after the first word, the second
pub behind_both : (text a b mid : List ℕ) (r : Option (Bor (List ℕ))) → text ≡ a ++ 32 ∷ mid → IsBehind mid b r → IsBehind text (a ++ codes " " ++ b) r
behind_both text a b mid None is h = λ rest e.
    let same : 32 ∷ mid ≡ 32 ∷ (b ++ 32 ∷ rest) = append_cancel_left a (32 ∷ mid) (32 ∷ (b ++ 32 ∷ rest)) (sym is ∙ words_apart text a b rest e) in
    h rest cc
behind_both text a b mid (Some rest) is h = words_on text a b mid rest.now is h

-- the number in front of the first space
pub front_of_number : (text front more rest : List ℕ) (n : ℕ) → n < 2 ^ 64 → IsCut 32 text front more → text ≡ decimal n ++ 32 ∷ rest → front ≡ decimal n
front_of_number text front more rest n small cut is = (decimal-cut text front more rest n 32 small (omega arith) cut is).0

-- a value by the rest of the text is one by the whole text
pub read_behind : {V : Type 0} (Good : V → Type 0) (told : V → List ℕ) (text front rest : List ℕ) (r : Option V) → text ≡ front ++ rest
    → MatchOption r ((v : V) → Good v → rest ≡ told v → ⊥) (λ v. Good v × (rest ≡ told v))
    → MatchOption r ((v : V) → Good v → text ≡ front ++ told v → ⊥) (λ v. Good v × (text ≡ front ++ told v))
read_behind Good told text front rest None is h = λ v good same. h v good (append_cancel_left front rest (told v) (sym is ∙ same))
read_behind Good told text front rest (Some v) is h = (h.0, is ∙ ap (λ t. front ++ t) h.1)
