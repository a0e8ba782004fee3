-- From the program's promise over two files in memory to an exact answer.
use Rattle.std.proofs.Common.{◌≡◌, ◌⊎◌, ◌↔◌, ◌<◌, ◌≤◌, ℕ, Bool, true, false, List, [], ◌∷◌, refl, subst, sym, ◌∙◌, ap, inl, inr, arith, Some, ◌||◌, ◌++◌, String, string_bytes, slice_index, codes}
use Rattle.std.specs.Str.{bytes_eq}
use Rattle.std.proofs.lemmas.Bool.{both_ways, cases_lt, cases_order, false≢true}
use Rattle.std.specs.declared.alloc.Global.{Global}
use Rattle.sedck_cert.specs.Ranked.{Accepts}
use Rattle.sedck_cert.specs.Headline.{SpellBoth, ReadBoth, IsSafe}
use Rattle.sedck_cert.specs.Everywhere.{IsSafeEverywhere}
use Rattle.sedck_cert.specs.declared.checking.Verdict.TheVariants.{Accepted, Rejected}
use Rattle.sedck_cert.proofs.Promise.{safe, safe_everywhere, read_both, not_accepted}
use Rattle.sedck_engines.specs.declared.answer.Outcome.TheVariants.{Yes, No}
use Rattle.sedck_engines.specs.declared.answer.Input.TheVariants as input
use Rattle.sedck_engines.specs.declared.answer.RunFault.TheVariants as fault
use Rattle.sedck_cli.specs.declared.command_line.Refusal.{Refusal}
use Rattle.sedck_cli.specs.declared.command_line.Refusal.TheVariants.{Usage, Run}
use Rattle.sedck_engines.specs.Opened.{Known}
use Rattle.sedck_engines.specs.Engines.{ChecksTo}
use Rattle.sedck_cli.specs.Statuses.{status_of, Asked, Check, Nothing, asked, has_option, IsReportFor}
use Rattle.sedck_cli.specs.Private.Requests.{two_files}
use Rattle.sedck_cli.specs.Causes.{IsUnread, IsCause}
use Rattle.sedck_cli.specs.Lines.{refusal_line, SaysRefusalFor}

-- a report of yes is one of an accepted certificate
pub yes_accepts : (text bytes report : List ℕ) → ChecksTo text bytes Yes report → SpellBoth text bytes Accepts
yes_accepts text bytes report (Accepted, is, both) =
    record { program = both.program; spelled = both.spelled; cert = both.cert; written = both.written; holds = both.holds.0 }
yes_accepts text bytes report (Rejected why, is, both) = cc

-- and a report of no one of a rejected certificate
pub no_rejects : (text bytes report : List ℕ) → ChecksTo text bytes No report → SpellBoth text bytes Accepts → ⊥
no_rejects text bytes report (Accepted, is, both) accepted = cc
no_rejects text bytes report (Rejected why, is, both) accepted =
    not_accepted both.program both.cert why both.holds.0
    (subst (λ p. Accepts p both.cert) (both.spelled.only accepted.program accepted.spelled.spells)
    (subst (λ c. Accepts accepted.program c) (both.written.only accepted.cert accepted.written.spells) accepted.holds))

-- no refusal but the words' and those of status 4 is right where both texts spell something
pub no_refusal : (text bytes : List ℕ) (failed : Bool) (refusal : Refusal) → IsCause (two_files text bytes) (Check (97 ∷ []) (98 ∷ [])) failed refusal
    → SpellBoth text bytes Accepts → (status_of refusal ≡ 3) ⊎ (status_of refusal ≡ 4)
no_refusal text bytes failed Usage is both = inl refl
no_refusal text bytes failed (Run (fault.Script why)) is both = absurd (is.1.none both.program both.spelled.spells)
no_refusal text bytes failed (Run (fault.Certificate why)) is both = absurd (is.2.none both.cert both.written.spells)
no_refusal text bytes failed (Run (fault.Read read)) is both = inr refl
no_refusal text bytes failed (Run fault.Write) is both = inr refl
no_refusal text bytes failed (Run fault.OutOfMemory) is both = inr refl

-- an accepted certificate is safe
pub accepted_safe : (text bytes : List ℕ) → SpellBoth text bytes Accepts → ReadBoth text bytes IsSafe
accepted_safe text bytes both =
    read_both text bytes (record {
      program = both.program;
      spelled = both.spelled;
      cert = both.cert;
      written = both.written;
      holds = safe text both.program both.cert both.spelled.spells both.holds;
    })

pub accepted_safe_everywhere : (text bytes : List ℕ) → SpellBoth text bytes Accepts → ReadBoth text bytes IsSafeEverywhere
accepted_safe_everywhere text bytes both =
    read_both text bytes (record {
      program = both.program;
      spelled = both.spelled;
      cert = both.cert;
      written = both.written;
      holds = safe_everywhere text both.program both.cert both.spelled.spells both.holds;
    })

-- ---- Words and statuses

pub words_check : (x y z : String Global) → string_bytes x ≡ codes "check" → string_bytes y ≡ codes "a" → string_bytes z ≡ codes "b"
    → asked (x ∷ y ∷ z ∷ []) ≡ Check (97 ∷ []) (98 ∷ [])
words_check x y z e f g = rw (e, f, g) refl

pub words_plain : (x y z : String Global) → string_bytes x ≡ codes "check" → string_bytes y ≡ codes "a" → string_bytes z ≡ codes "b"
    → has_option (x ∷ y ∷ z ∷ []) ≡ false
words_plain x y z e f g = rw (e, f, g) refl

-- what is known of a run of the program on two files in memory
pub record Ran (text bytes : List ℕ) (words : List (String Global)) (status : ℕ) : Type 0 where
  pub within : status ≤ 4
  pub is_check : asked words ≡ Check (97 ∷ []) (98 ∷ [])
  pub is_plain : has_option words ≡ false
  pub yes : status ≡ 0 → (report : List ℕ) × IsReportFor (two_files text bytes) (asked words) Yes report
  pub negative : status ≡ 1 → (report : List ℕ) × IsReportFor (two_files text bytes) (asked words) No report
  pub usage : status ≡ 3 → (has_option words ≡ true) ⊎ (asked words ≡ Nothing)
  pub cause : 1 < status → (failed : Bool) × (refusal : Refusal) × (status_of refusal ≡ status)
      × IsCause (two_files text bytes) (asked words) failed refusal

ran_yes : {text bytes : List ℕ} {words : List (String Global)} {status : ℕ} → Ran text bytes words status → status ≡ 0 → SpellBoth text bytes Accepts
ran_yes {text} {bytes} r is =
    let report = r.yes is in
    yes_accepts text bytes report.0 (subst (λ a. IsReportFor (two_files text bytes) a Yes report.0) r.is_check report.1)

no_check : {a b : List ℕ} → Check a b ≡ Nothing → ⊥
no_check e = cc e

-- status 3 is none of these words
ran_usage : {text bytes : List ℕ} {words : List (String Global)} {status : ℕ} → Ran text bytes words status → status ≡ 3 → ⊥
ran_usage r is = elim (r.usage is) [ inl option ↦ both_ways _ r.is_plain option | inr nothing ↦ no_check (sym r.is_check ∙ nothing) ]

ran_no : {text bytes : List ℕ} {words : List (String Global)} {status : ℕ} → Ran text bytes words status → status ≡ 1 → SpellBoth text bytes Accepts → ⊥
ran_no {text} {bytes} r is both =
    let report = r.negative is in
    no_rejects text bytes report.0 (subst (λ a. IsReportFor (two_files text bytes) a No report.0) r.is_check report.1) both

ran_refused : {text bytes : List ℕ} {words : List (String Global)} {status : ℕ} → Ran text bytes words status → 1 < status → SpellBoth text bytes Accepts
    → (status ≡ 3) ⊎ (status ≡ 4)
ran_refused {text} {bytes} r above both =
    let why = r.cause above in
    let is = subst (λ a. IsCause (two_files text bytes) a why.0 why.1) r.is_check why.3 in
    subst (λ s. (s ≡ 3) ⊎ (s ≡ 4)) why.2 (no_refusal text bytes why.0 why.1 is both)

accepted_zero : {text bytes : List ℕ} {words : List (String Global)} {status : ℕ} → Ran text bytes words status → SpellBoth text bytes Accepts
    → (status ≡ 0) ⊎ (status ≡ 4)
accepted_zero {status = status} r both = elim (cases_order status 1) [
  | inl one ↦ absurd (ran_no r one both)
  | inr (inl below) ↦ inl (omega (arith, below))
  | inr (inr above) ↦ elim (ran_refused r above both) [ inl three ↦ absurd (ran_usage r three) | inr four ↦ inr four ]
]

pub exact : {text bytes : List ℕ} {words : List (String Global)} {status : ℕ} → Ran text bytes words status
    → (status ≡ 4) ⊎ ((status ≡ 0) ↔ SpellBoth text bytes Accepts)
exact {status = status} r = elim (cases_order status 4) [
  | inl four ↦ inl four
  | inr (inl below) ↦ inr (ran_yes r, λ both. elim (accepted_zero r both) [ inl zero ↦ zero | inr four ↦ absurd (omega (arith, four, below)) ])
  | inr (inr above) ↦ absurd (omega (arith, above, r.within))
]

pub promised : {text bytes : List ℕ} {words : List (String Global)} {status : ℕ} → Ran text bytes words status → status ≡ 0 → ReadBoth text bytes IsSafe
promised {text} {bytes} r is = accepted_safe text bytes (ran_yes r is)

pub promised_everywhere : {text bytes : List ℕ} {words : List (String Global)} {status : ℕ} → Ran text bytes words status → status ≡ 0
    → ReadBoth text bytes IsSafeEverywhere
promised_everywhere {text} {bytes} r is = accepted_safe_everywhere text bytes (ran_yes r is)

-- ---- What has status 4

-- both files are there, and no read of them fails
opened_both : (text bytes path : List ℕ) → IsUnread (two_files text bytes) (Check (97 ∷ []) (98 ∷ [])) path
    → (bytes_eq path (codes "a") || bytes_eq path (codes "b")) ≡ true → ⊥
opened_both text bytes path (inl closed) there = false≢true (closed ∙ there)
opened_both text bytes path (inr failing) there = failing.1

-- where no write has failed, memory is all that has this status
only_memory : (text bytes : List ℕ) (refusal : Refusal) → IsCause (two_files text bytes) (Check (97 ∷ []) (98 ∷ [])) false refusal
    → status_of refusal ≡ 4 → refusal ≡ Run fault.OutOfMemory
only_memory text bytes Usage is four = absurd (omega (arith, four))
only_memory text bytes (Run (fault.Script why)) is four = absurd (omega (arith, four))
only_memory text bytes (Run (fault.Certificate why)) is four = absurd (omega (arith, four))
only_memory text bytes (Run (fault.Read input.Script)) is four = absurd (opened_both text bytes (97 ∷ []) is refl)
only_memory text bytes (Run (fault.Read input.Certificate)) is four = absurd (opened_both text bytes (98 ∷ []) is.1 refl)
only_memory text bytes (Run fault.Write) is four = absurd (false≢true is.1)
only_memory text bytes (Run fault.OutOfMemory) is four = refl

-- no refusal with another status has this line
memory_line : (refusal : Refusal) → refusal_line refusal ≡ refusal_line (Run fault.OutOfMemory) → status_of refusal ≡ 4
memory_line Usage same = let letter : 117 ≡ 111 = ap (λ l. slice_index l 7) same in absurd (omega (arith, letter))
memory_line (Run (fault.Script why)) same = let letter : 115 ≡ 111 = ap (λ l. slice_index l 7) same in absurd (omega (arith, letter))
memory_line (Run (fault.Certificate why)) same = let letter : 99 ≡ 111 = ap (λ l. slice_index l 7) same in absurd (omega (arith, letter))
memory_line (Run (fault.Read read)) same = refl
memory_line (Run fault.Write) same = refl
memory_line (Run fault.OutOfMemory) same = refl

-- the same of what is on standard error, where it was empty and no write has failed
pub said_line : (k : Known) (asked : Asked) (failed : Bool) (status : ℕ) (before after error : List ℕ) → failed ≡ false → before ≡ []
    → error ≡ after → SaysRefusalFor k asked failed status (Some before) (Some after) → SaysRefusalFor k asked false status (Some []) (Some error)
said_line k asked failed status before after error none empty same why =
    (why.0, why.1, subst (λ f. IsCause k asked f why.0) none why.2, same ∙ why.3 ∙ ap (λ b. b ++ refusal_line why.0) empty)

-- what is known of a run on two files in memory, of which no write has failed, and what is on standard error
pub record Said (text bytes : List ℕ) (words : List (String Global)) (status : ℕ) (error : List ℕ) : Type 0 where
  pub is_check : asked words ≡ Check (97 ∷ []) (98 ∷ [])
  pub said : 1 < status → SaysRefusalFor (two_files text bytes) (asked words) false status (Some []) (Some error)
  pub silent : status < 2 → error ≡ []

pub memory : {text bytes : List ℕ} {words : List (String Global)} {status : ℕ} {error : List ℕ} → Said text bytes words status error
    → (status ≡ 4) ↔ (error ≡ refusal_line (Run fault.OutOfMemory))
memory {text} {bytes} {words} {status} {error} s = (
  λ four.
      let why = s.said (omega (arith, four)) in
      let is = subst (λ a. IsCause (two_files text bytes) a false why.0) s.is_check why.2 in
      why.3 ∙ ap refusal_line (only_memory text bytes why.0 is (why.1 ∙ four)),
  λ says. elim (cases_lt status 2) [
    | inl below ↦ absurd (no_line (sym (s.silent below) ∙ says))
    | inr above ↦
        let why = s.said (omega (arith, above)) in
        sym why.1 ∙ memory_line why.0 (sym why.3 ∙ says)
  ],
)
  where
    no_line : [] ≡ refusal_line (Run fault.OutOfMemory) → ⊥
    no_line e = cc e
