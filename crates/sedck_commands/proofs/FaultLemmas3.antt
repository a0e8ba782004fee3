-- What is wrong with labels, verbs and commands.
use Rattle.sedck_commands.proofs.Common.{◌≡◌, ℕ, ◌+◌, ◌-◌, ◌<◌, Bool, List, [], ◌∷◌, ◌++◌, length, drop, drop-drop, length-append, Option, Some, None, is_some, IfSome, true, false, refl, subst, sym, ap, ◌∙◌, arith, nil_from_length, unread, unread_length, Cursor, is_blank, Longest, longest_one, Ends, not, false≢true, one_of, begins, jump_byte, is_in, verb_bytes, IsEmptyOr, false_from_ne_true, both_ways, codes, Address, ScriptFault, if◌then◌else◌, cond_both, BeginsAt, VerbFault, CheckFault, IsJumpIn, WrittenCode, TooManyAddresses, UnknownCommand}
use Rattle.sedck_commands.proofs.VerbBytes.{misplaced}
use Rattle.sedck_commands.proofs.VerbCases.{of_all}
use Rattle.sedck_commands.specs.Private.Reading.{IsLabelAt}
use Rattle.sedck_commands.specs.FirstFaults as fault

-- what a cursor further on hasn't read begins at its offset in the whole of the one before it
pub begins_there : (text behind : Cursor) → behind.whole ≡ text.whole → BeginsAt (length text.whole.now) (unread behind) behind.at
begins_there text behind same = unread_length behind ∙ ap (λ w. length w.now) same

-- ---- Labels

pub label_missing : {text name behind : List ℕ} → IsLabelAt text name behind → length name ≡ 0 → IsLabelAt text [] behind
label_missing {text} {name} {behind} at none = subst (λ n. IsLabelAt text n behind) (nil_from_length name none) at

-- a label that is missing is where what follows it is
pub missing_begins : {at size : ℕ} (name behind : List ℕ) (offset : ℕ) → offset + length name ≡ at → length name ≡ 0 → BeginsAt size behind at
    → BeginsAt size behind offset
missing_begins name behind offset ends none begins = omega (arith, ends, none, begins)

-- and one that isn't is before what follows it
pub label_begins_there : (text behind : Cursor) (name : List ℕ) (offset : ℕ) → behind.whole ≡ text.whole → offset + length name ≡ behind.at
    → BeginsAt (length text.whole.now) (name ++ unread behind) offset
label_begins_there text behind name offset same at = omega (arith, at, begins_there text behind same, length-append name (unread behind))

-- where a `}` is right after the label of a branch, its command ends right there
pub brace_first : (text : List ℕ) {rest : List ℕ} → begins "}" text ≡ true → Ends text rest → length rest ≡ length text
brace_first [] h e = absurd (false≢true h)
brace_first (b ∷ text) h e = ap length (longest_one e.run none).1
  where
    no_blank : (b : ℕ) → one_of "}" b ≡ true → not (is_blank b) ≡ true
    no_blank b is = grind (arith, is)

    none : Longest is_blank (b ∷ text) [] (b ∷ text)
    none = record { cut = refl; passes = refl; stops = no_blank b h }

pub brace_ends : (brace : Option ℕ) (behind rest : Cursor) → rest.whole ≡ behind.whole → Ends (unread behind) (unread rest)
    → is_some brace ≡ begins "}" (unread behind) → IfSome brace (λ place. place ≡ behind.at) → IfSome brace (λ place. place ≡ rest.at)
brace_ends (Some place) behind rest same ends braced at =
    omega (arith, at, brace_first (unread behind) (sym braced) ends, unread_length behind, unread_length rest, ap (λ w. length w.now) same)
brace_ends None behind rest same ends braced at = tt

-- ---- Verbs

-- a verb whose byte has been read last
pub verb_begins : (text : Cursor) (b : ℕ) → 0 < text.at → BeginsAt (length text.whole.now) (b ∷ unread text) (text.at - 1)
verb_begins text b some = omega (arith, some, unread_length text)

pub jump_listed : (tests : Bool) → one_of "bt" (jump_byte tests) ≡ true
jump_listed true = refl
jump_listed false = refl

-- a fault of a verb whose byte has been read is one of the text before it
pub verb_fault_at : {P : List ℕ → Type 0} {b : ℕ} {f : ScriptFault} (begins behind : Cursor) → behind.whole ≡ begins.whole
    → unread begins ≡ b ∷ unread behind → VerbFault (length behind.whole.now) P (b ∷ unread behind) f
    → VerbFault (length begins.whole.now) P (unread begins) f
verb_fault_at {P} {f = f} begins behind same cut bad = subst (λ w. VerbFault (length w.now) P (unread begins) f) same
    (subst (λ t. VerbFault (length behind.whole.now) P t f) (sym cut) bad)

-- what follows a verb's byte
behind_verb : {b : ℕ} {text : List ℕ} (at : Cursor) → unread at ≡ b ∷ text → drop (at.at + 1) at.whole.now ≡ text
behind_verb at cut = sym (drop-drop 1 at.at at.whole.now) ∙ ap (drop 1) cut

-- a label that is there
pub jump_in : {b : ℕ} (verb : WrittenCode) (at behind : Cursor) → behind.whole ≡ at.whole → unread at ≡ b ∷ unread behind
    → IsJumpIn (length behind.whole.now) (unread behind) verb → IsJumpIn (length at.whole.now) (drop (at.at + 1) at.whole.now) verb
jump_in verb at behind same cut jump = subst (λ w. IsJumpIn (length w.now) (drop (at.at + 1) at.whole.now) verb) same
    (subst (λ t. IsJumpIn (length behind.whole.now) t verb) (sym (behind_verb at cut)) jump)

-- the fault of a byte that is no verb
pub no_verb_fault : {b place at size depth count : ℕ} {negated : Bool} {address : Address} {text more : List ℕ} {f : ScriptFault}
    → f ≡ (if one_of "}#" b then TooManyAddresses place else UnknownCommand place) → place ≡ at → BeginsAt size text at → text ≡ b ∷ more
    → (is_in b verb_bytes ≡ true → one_of "}#" b ≡ true) → CheckFault size address negated depth count text f
no_verb_fault {b} {place} {at} {size} {depth} {count} {negated} {address} {text} {f = f} is here begins cut known =
    let Is = CheckFault size address negated depth count text in
    cond_both (one_of "}#" b) (TooManyAddresses place) (UnknownCommand place) (λ g. f ≡ g → Is f)
    (λ t e. subst Is (sym e) (rw here (fault.addresses cut (of_all (λ c. is_in c verb_bytes) (codes "}#") b t refl) (misplaced b address negated t) begins)))
    (λ n e. subst Is (sym e) (rw here (fault.unknown (subst (IsEmptyOr (λ c. not (is_in c verb_bytes))) (sym cut)
    (rw (false_from_ne_true _ (λ k. both_ways _ n (known k))) refl)) begins)))
    is
