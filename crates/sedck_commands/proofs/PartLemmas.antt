-- Texts.
use Rattle.sedck_commands.proofs.Common.{◌≡◌, ◌≢◌, ℕ, arith, List, [], ◌∷◌, length, ap, sym, ◌∙◌, subst, inl, inr, ◌⊎◌, is_blank, Longest, Lines, GivenText, longest_one, nil_from_length}
use Rattle.sedck_commands.specs.Parts as p
use Rattle.sedck_commands.proofs.FirstBytes.{heads, tails}
use Rattle.std.proofs.lemmas.List.{length-append}

-- What lines the rest begins with, the text begins with lines up to the same end.
pub record LinesPassed (text rest : List ℕ) : Type 0 where
  pub sound : (bytes r : List ℕ) → Lines rest bytes r → (all : List ℕ) × Lines text all r

pub passed_byte : {text rest behind : List ℕ} {b : ℕ} → LinesPassed text rest → rest ≡ b ∷ behind → b ≢ 10 → b ≢ 92 → LinesPassed text behind
passed_byte {b = b} h e f g = record { sound = λ bytes r x. h.sound (b ∷ bytes) r (rw e (p.byte f g x)) }

pub passed_pair : {text rest behind after : List ℕ} {a b : ℕ} → LinesPassed text rest → rest ≡ a ∷ behind → behind ≡ b ∷ after → a ≡ 92 → LinesPassed text after
passed_pair {a = a} {b = b} h e f g = record { sound = λ bytes r x. h.sound (a ∷ b ∷ bytes) r (rw (e, f) (p.pair g x)) }

last_lines : {a : ℕ} {bytes r : List ℕ} → a ≡ 92 → Lines [] bytes r → Lines (a ∷ []) (a ∷ []) r
last_lines g p.all = p.last g

pub passed_last : {text rest behind : List ℕ} {a : ℕ} → LinesPassed text rest → rest ≡ a ∷ behind → length behind ≡ 0 → a ≡ 92 → LinesPassed text behind
passed_last {behind = behind} {a = a} h e f g =
    let none = nil_from_length behind f in record { sound = λ bytes r x. h.sound (a ∷ []) r (rw (e, none) (last_lines g (rw none at x))) }

pub passed_end : {text rest : List ℕ} → LinesPassed text rest → length rest ≡ 0 → (bytes : List ℕ) × Lines text bytes rest
passed_end {rest = rest} h e = let none = nil_from_length rest e in h.sound [] rest (subst (λ t. Lines t [] t) (sym none) p.all)

pub passed_line : {text rest behind : List ℕ} {b : ℕ} → LinesPassed text rest → rest ≡ b ∷ behind → b ≡ 10 → (bytes : List ℕ) × Lines text bytes rest
passed_line {rest = rest} h e f = h.sound [] rest (subst (λ t. Lines t [] t) (sym e) (p.ends f))

pub given_at_once : {text behind bytes rest : List ℕ} {b : ℕ} → text ≡ b ∷ behind → b ≢ 10 → b ≢ 92 → Lines text bytes rest → GivenText text bytes rest
given_at_once e f g x = rw e (p.at_once f g (rw e at x))

pub given_below : {text behind below bytes rest : List ℕ} {a b : ℕ} → text ≡ a ∷ behind → behind ≡ b ∷ below → a ≡ 92 → b ≡ 10
    → Lines below bytes rest → GivenText text bytes rest
given_below e f g h x = rw (e, f) (p.below g h x)

pub given_behind : {text behind blanks begins more bytes rest : List ℕ} {a b : ℕ} → text ≡ a ∷ behind → a ≡ 92 → Longest is_blank behind blanks begins
    → begins ≡ b ∷ more → b ≢ 10 → b ≢ 92 → Lines behind bytes rest → GivenText text bytes rest
given_behind e g l f h k x = rw e (p.behind g (rw f at l) h k x)

-- after the backslash is neither a newline nor, behind blanks, a byte that begins a text
no_given_by : {text behind bytes rest : List ℕ} {a : ℕ} → text ≡ a ∷ behind → a ≡ 92 → ((c : ℕ) (t : List ℕ) → behind ≡ c ∷ t → c ≢ 10)
    → ((blanks more : List ℕ) (b : ℕ) → Longest is_blank behind blanks (b ∷ more) → b ≢ 10 → b ≢ 92 → ⊥) → GivenText text bytes rest → ⊥
no_given_by e g n k (p.below i j y) = n _ _ (sym (tails e)) j
no_given_by e g n k (p.behind i m line slash y) = k _ _ _ (rw (tails e) at m) line slash
no_given_by e g n k (p.at_once i j y) = j (heads e ∙ g)

-- after the backslash is nothing
pub no_given_end : {text behind bytes rest : List ℕ} {a : ℕ} → text ≡ a ∷ behind → a ≡ 92 → behind ≡ [] → GivenText text bytes rest → ⊥
no_given_end e g none = no_given_by e g (λ c t i. absurd (cc (i, none)))
    (λ blanks more b m. absurd (omega (arith, ap length (sym none ∙ m.cut), length-append blanks (b ∷ more))))

-- after the backslash are only blanks
pub no_given_blank : {text behind blanks begins below bytes rest : List ℕ} {a c : ℕ} → text ≡ a ∷ behind → a ≡ 92 → behind ≡ c ∷ below → c ≢ 10
    → Longest is_blank behind blanks begins → begins ≡ [] → GivenText text bytes rest → ⊥
no_given_blank e g f n l none =
    no_given_by e g (λ d t i j. n (heads (sym f ∙ i) ∙ j)) (λ blanks more b m. absurd (cc ((longest_one l m).1, none)))

-- after the backslash is neither a newline nor a byte that begins a text
pub no_given : {text behind blanks begins more below bytes rest : List ℕ} {a b c : ℕ} → text ≡ a ∷ behind → a ≡ 92 → behind ≡ c ∷ below → c ≢ 10
    → Longest is_blank behind blanks begins → begins ≡ b ∷ more → (b ≡ 10) ⊎ (b ≡ 92) → GivenText text bytes rest → ⊥
no_given e g f n l h k = no_given_by e g (λ d t i j. n (heads (sym f ∙ i) ∙ j)) (λ blanks more b m line slash.
    let same = heads (sym h ∙ (longest_one l m).1) in elim k [ inl i ↦ line (sym same ∙ i) | inr i ↦ slash (sym same ∙ i) ])
