-- A longest run of a text is there, and there is only one.
use Rattle.std.proofs.Common.{◌≡◌, ℕ, ◌+◌, Bool, true, not, List, [], ◌∷◌, ◌++◌, take, drop, length, refl, ap, sym, ◌∙◌, subst₂, arith}
use Rattle.std.proofs.Math.Numerals.{one-add}
use Rattle.std.specs.List.{prefix_len, list_all}
use Rattle.std.proofs.lemmas.Bool.{cond_both, and_from, and_parts, both_ways, not_from_false, not-true, false_from_ne_true}
use Rattle.std.specs.Prelude.{Option, Some, None, unwrap_or}
use Rattle.memchr.specs.Find.{IsFirstByte}
use Rattle.std.proofs.lemmas.List.Sums.{position_or_len_is}
use Rattle.sedck_text.specs.Runs.{IsEmptyOr, Longest}

-- what is put before a run by one more byte
run_cons : (p : ℕ → Bool) (b : ℕ) (text front rest : List ℕ) → p b ≡ true → Longest p text front rest → Longest p (b ∷ text) (b ∷ front) rest
run_cons p b text front rest passing l = record { cut = ap (λ t. b ∷ t) l.cut; passes = and_from (p b) (list_all p front) passing l.passes; stops = l.stops }

pub longest_cut : (p : ℕ → Bool) (text : List ℕ) → Longest p text (take (prefix_len p text) text) (drop (prefix_len p text) text)
longest_cut p [] = record { cut = refl; passes = refl; stops = tt }
longest_cut p (b ∷ text) =
    cond_both (p b) (1 + prefix_len p text) 0 (λ n. Longest p (b ∷ text) (take n (b ∷ text)) (drop n (b ∷ text)))
    (λ passing. rw one-add (run_cons p b text _ _ passing (longest_cut p text)))
    (λ failing. record { cut = refl; passes = refl; stops = not_from_false (p b) failing })

-- two runs of one text
one_run : (p : ℕ → Bool) (f g r s : List ℕ) → f ++ r ≡ g ++ s → list_all p f ≡ true → list_all p g ≡ true → IsEmptyOr (λ b. not (p b)) r
    → IsEmptyOr (λ b. not (p b)) s → (f ≡ g) × (r ≡ s)
one_run p [] [] r s e pf pg hr hs = (refl, e)
one_run p [] (b ∷ g) [] s e pf pg hr hs = absurd (cc e)
one_run p [] (b ∷ g) (c ∷ r) s e pf pg hr hs = absurd
    (both_ways (p c) (not-true (p c) hr) (let same : c ≡ b = cc e in rw same (and_parts (p b) (list_all p g) pg).0))
one_run p (b ∷ f) [] r [] e pf pg hr hs = absurd (cc e)
one_run p (b ∷ f) [] r (c ∷ s) e pf pg hr hs = absurd
    (both_ways (p c) (not-true (p c) hs) (let same : c ≡ b = cc e in rw same (and_parts (p b) (list_all p f) pf).0))
one_run p (b ∷ f) (c ∷ g) r s e pf pg hr hs =
    let tails : f ++ r ≡ g ++ s = cc e in
    let heads : b ≡ c = cc e in
    let both : (f ≡ g) × (r ≡ s) = one_run p f g r s tails (and_parts (p b) (list_all p f) pf).1 (and_parts (p c) (list_all p g) pg).1 hr hs in
    (cc (heads, both.0), both.1)

pub longest_one : {p : ℕ → Bool} {text f g r s : List ℕ} → Longest p text f r → Longest p text g s → (f ≡ g) × (r ≡ s)
longest_one {p} {text} {f} {g} {r} {s} l m = one_run p f g r s (sym l.cut ∙ m.cut) l.passes m.passes l.stops m.stops

-- the length of the run before the first byte that passes
pub first_place : (test : ℕ → Bool) (text : List ℕ) (r : Option ℕ) → IsFirstByte test text r → unwrap_or r (length text) ≡ prefix_len (λ b. not (test b)) text
first_place test text None h =
    sym (position_or_len_is test text (length text) 0 (omega arith) (λ k lt. false_from_ne_true _ (h k (omega arith) lt)) (λ lt. absurd (omega arith)))
first_place test text (Some k) h =
    sym (position_or_len_is test text k 0 (omega (arith, h.0.high)) (λ j lt. false_from_ne_true _ (h.0.before j (omega arith) lt)) (λ lt. h.1))

-- the two parts of a split at a run's length
pub longest_parts : (p : ℕ → Bool) (text front rest : List ℕ) (n : ℕ) → n ≡ prefix_len p text → front ≡ take n text → rest ≡ drop n text
    → Longest p text front rest
longest_parts p text front rest n e f g = subst₂ (λ x y. Longest p text x y) (ap (λ k. take k text) (sym e) ∙ sym f)
    (ap (λ k. drop k text) (sym e) ∙ sym g) (longest_cut p text)
