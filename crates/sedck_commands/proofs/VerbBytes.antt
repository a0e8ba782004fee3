-- What the first byte of a verb says of it.
use Rattle.sedck_commands.proofs.Common.{◌≡◌, ◌≢◌, ℕ, Bool, true, false, not, eqb, cond, List, Option, ◌∷◌, refl, sym, ◌∙◌, subst, arith, false≢true, eq-eqb, is_in, one_of, Address, NoAddress, Two, Verb, WrittenVerb, Known, JumpTo, Opening, Simple, VerbText, Takes, verb_bytes, ◌&&◌, is_none, is_two, takes}
use Rattle.sedck_commands.specs.Items as w
use Rattle.sedck_commands.proofs.FirstBytes.{heads}

pub record IsVerbByte (b : ℕ) (v : WrittenVerb) : Type 0 where
  pub known : is_in b verb_bytes ≡ true
  pub takes_so : (a : Address) (n : Bool) → takes b a n ≡ true → Takes v a n
  pub taken_so : (a : Address) (n : Bool) → Takes v a n → takes b a n ≡ true
  pub opens : b ≡ 123 → v ≡ Opening
  pub opening : v ≡ Opening → b ≡ 123

-- a verb that opens no block
no_block : {v : WrittenVerb} (b : ℕ) → is_in b verb_bytes ≡ true → ((a : Address) (n : Bool) → takes b a n ≡ true → Takes v a n)
    → ((a : Address) (n : Bool) → Takes v a n → takes b a n ≡ true) → eqb b 123 ≡ false → (v ≡ Opening → ⊥) → IsVerbByte b v
no_block b k t u f g = record {
  known = k;
  takes_so = t;
  taken_so = u;
  opens = λ e. absurd (false≢true (sym f ∙ eq-eqb b 123 e));
  opening = λ e. absurd (g e);
}

-- and that takes any addresses
any_addresses : {v : WrittenVerb} (b : ℕ) → is_in b verb_bytes ≡ true → ((a : Address) (n : Bool) → takes b a n ≡ true)
    → ((a : Address) (n : Bool) → Takes v a n) → eqb b 123 ≡ false → (v ≡ Opening → ⊥) → IsVerbByte b v
any_addresses b k t u f g = no_block b k (λ a n h. u a n) (λ a n h. t a n) f g

not_two : (a : Address) → not (is_two a) ≡ true → (p q : _) → a ≢ Two p q
not_two (Two x y) h p q e = false≢true h
not_two _ h p q e = cc e

is_not_two : (a : Address) → ((p q : _) → a ≢ Two p q) → not (is_two a) ≡ true
is_not_two (Two x y) h = absurd (h x y refl)
is_not_two _ h = refl

none_is : (a : Address) (n : Bool) → (is_none a && not n) ≡ true → (a ≡ NoAddress) × (n ≡ false)
none_is NoAddress false h = (refl, refl)
none_is _ n h = absurd (false≢true h)

pub simple_byte : {b : ℕ} {v : Verb} → Simple b v → IsVerbByte b (Known v)
simple_byte w.quit = no_block 113 refl (λ a n h. not_two a h) (λ a n h. is_not_two a h) refl (λ e. cc e)
simple_byte _ = any_addresses _ refl (λ a n. refl) (λ a n. tt) refl (λ e. cc e)

along : {b c : ℕ} {v : WrittenVerb} → b ≡ c → IsVerbByte c v → IsVerbByte b v
along {v = v} e h = subst (λ x. IsVerbByte x v) (sym e) h

jump_is : (tests : Bool) {label : Option (List ℕ)} {braced : Bool} → IsVerbByte (cond tests 116 98) (JumpTo tests label braced)
jump_is true = any_addresses 116 refl (λ a n. refl) (λ a n. tt) refl (λ e. cc e)
jump_is false = any_addresses 98 refl (λ a n. refl) (λ a n. tt) refl (λ e. cc e)

pub byte_of : {b : ℕ} {t text rest : List ℕ} {v : WrittenVerb} → t ≡ b ∷ text → VerbText t v rest → IsVerbByte b v
byte_of e (w.simple x f) = along (sym (heads e)) (simple_byte x)
byte_of e (w.label h l n f) = along (sym (heads e) ∙ h) (no_block 58 refl none_is (λ a n t. rw (t.0, t.1) refl) refl (λ e. cc e))
byte_of e (w.opening h) = along (sym (heads e) ∙ h)
    (record { known = refl; takes_so = λ a n h. tt; taken_so = λ a n h. refl; opens = λ e. refl; opening = λ e. refl })
byte_of e (w.jump {tests = t} h l n f brace) = along (sym (heads e) ∙ h) (jump_is t)
byte_of e (w.jump_to_end {tests = t} h n f brace) = along (sym (heads e) ∙ h) (jump_is t)
byte_of e (w.append h l g) = along (sym (heads e) ∙ h) (any_addresses 97 refl (λ a n. refl) (λ a n. tt) refl (λ e. cc e))
byte_of e (w.change h l g) = along (sym (heads e) ∙ h) (any_addresses 99 refl (λ a n. refl) (λ a n. tt) refl (λ e. cc e))
byte_of e (w.insert h l g) = along (sym (heads e) ∙ h) (any_addresses 105 refl (λ a n. refl) (λ a n. tt) refl (λ e. cc e))
byte_of e (w.read h n) = along (sym (heads e) ∙ h) (any_addresses 114 refl (λ a n. refl) (λ a n. tt) refl (λ e. cc e))
byte_of e (w.write h n) = along (sym (heads e) ∙ h) (any_addresses 119 refl (λ a n. refl) (λ a n. tt) refl (λ e. cc e))
byte_of e (w.substitute h d x y z g f) = along (sym (heads e) ∙ h) (any_addresses 115 refl (λ a n. refl) (λ a n. tt) refl (λ e. cc e))
byte_of e (w.transliterate h d x m y l f) = along (sym (heads e) ∙ h) (any_addresses 121 refl (λ a n. refl) (λ a n. tt) refl (λ e. cc e))

-- a byte that takes not all addresses is one of four
pub not_taken : (b : ℕ) (a : Address) (n : Bool) → takes b a n ≡ false → one_of "q:}#" b ≡ true
not_taken b a n h = grind (arith, h)

-- before a `}` and a comment are no addresses
pub misplaced : (b : ℕ) (a : Address) (n : Bool) → one_of "}#" b ≡ true → takes b a n ≡ false
misplaced b a n h = rw h refl
