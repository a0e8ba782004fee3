-- From what the search finds of a script to the status and the answer that C gets.
use Rattle.std.proofs.Common.{◌≡◌, ◌≢◌, ◌⊎◌, ◌≤◌, ℕ, Bool, List, length, Option, Some, None, Result, Ok, Err, IfOk, IfErr, refl, sym, subst, inl, inr, arith}
use Rattle.sedck_commands.specs.Program.{Program}
use Rattle.sedck_script.specs.Spelling.{Spells}
use Rattle.sedck_commands.specs.declared.fault.ScriptFault.{ScriptFault}
use Rattle.sedck_commands.specs.declared.fault.ScriptFault.TheVariants as script
use Rattle.sedck_cert.specs.Certificate.{Certificate}
use Rattle.sedck_cert.specs.Ranked.{Accepts}
use Rattle.sedck_cert.specs.Headline.{IsLimit, IsScriptFaultOf}
use Rattle.sedck_cert.specs.Everywhere.{IsLimitEverywhere}
use Rattle.sedck_cert.proofs.Promise.{safe, safe_everywhere}
use Rattle.sedck_cert.specs.declared.verifying.Fault.TheVariants as faults
use Rattle.sedck_engines.specs.Engines.{EngineAnswers, Writing, OfBytes, IsRefusedScript, RanksTo}
use Rattle.sedck_engines.specs.declared.answer.Outcome.{Outcome}
use Rattle.sedck_engines.specs.declared.answer.RunFault.{RunFault}
use Rattle.sedck_engines.specs.declared.answer.RunFault.TheVariants as run
use Rattle.sedck_c.specs.Answers.{HasOne, HasNone, IsListed, IsTold, IsNeeded, IsPut, TellsScriptFault, TellsScriptFaultOf, bound_of, lists_of}
use Rattle.sedck_c.specs.Private.Answers.{IsCertified, IsRefusedAs, IsRefusedBy, IsSearched, IsRefusedIn}
use Rattle.sedck_c.specs.Private.Statuses.{status_of}
use Rattle.sedck_c.specs.declared.answer.Answer.{Answer}
use Rattle.sedck_c.specs.declared.certified.Certified.{Certified}

-- ---- Texts that are put

-- put, not put for want of memory, or not for want of room
abbrev pub Putting : ℕ → Type 0 → Type 0 → Type 0
Putting status Put Small = (status ≡ 4) ⊎ ((status ≡ 0) × Put) ⊎ ((status ≡ 5) × Small)

pub put_within : {Put Small : Type 0} (status : ℕ) → Putting status Put Small → (status ≤ 2) ⊎ (status ≡ 4) ⊎ (status ≡ 5)
put_within status (inl memory) = inr (inl memory)
put_within status (inr (inl put)) = inl (omega (arith, put.0))
put_within status (inr (inr small)) = inr (inr small.0)

pub put_text : {Put Small : Type 0} (status : ℕ) → Putting status Put Small → status ≡ 0 → Put
put_text status (inl memory) e = absurd (omega (arith, memory, e))
put_text status (inr (inl put)) e = put.1
put_text status (inr (inr small)) e = absurd (omega (arith, small.0, e))

pub put_small : {Put Small : Type 0} (status : ℕ) → Putting status Put Small → status ≡ 5 → Small
put_small status (inl memory) e = absurd (omega (arith, memory, e))
put_small status (inr (inl put)) e = absurd (omega (arith, put.0, e))
put_small status (inr (inr small)) e = small.1

pub put_zero : {Put Small : Type 0} (status : ℕ) → Putting status Put Small → status ≢ 4 → status ≢ 5 → status ≡ 0
put_zero status (inl memory) some room = absurd (some memory)
put_zero status (inr (inl put)) some room = put.0
put_zero status (inr (inr small)) some room = absurd (room small.0)

pub put_never : {Put Small : Type 0} (status : ℕ) → Putting status Put Small → (status ≡ 1) ⊎ (status ≡ 2) → ⊥
put_never status (inl memory) (inl e) = absurd (omega (arith, memory, e))
put_never status (inl memory) (inr e) = absurd (omega (arith, memory, e))
put_never status (inr (inl put)) (inl e) = absurd (omega (arith, put.0, e))
put_never status (inr (inl put)) (inr e) = absurd (omega (arith, put.0, e))
put_never status (inr (inr small)) (inl e) = absurd (omega (arith, small.0, e))
put_never status (inr (inr small)) (inr e) = absurd (omega (arith, small.0, e))

-- the lists are put, with their length
pub put_listed : {Small : Type 0} (c : Certificate) (status : ℕ) (room : List ℕ) (needed : ℕ) → (status ≡ 4) ⊎ (needed ≡ length (lists_of c))
    → Putting status (IsPut (lists_of c) room) Small → status ≡ 0 → IsListed c room needed
put_listed c status room needed (inl memory) putting e = absurd (omega (arith, memory, e))
put_listed c status room needed (inr long) putting e = (long, put_text status putting e)

-- ---- A certificate, or none

pub one_of : (text : List ℕ) (found : Certified) (Holds : Program → Certificate → Type 0) → IsCertified text (Some found)
    → ((p : Program) → Spells text p → Accepts p found.cert → IsLimit p found.cert found.bound → IsLimitEverywhere p found.bound → Holds p found.cert)
    → HasOne text Holds
one_of text found Holds is holds =
    record {
      program = is.program;
      spelled = is.spelled;
      cert = found.cert;
      holds = holds is.program is.spelled.spells is.holds.0 is.holds.1 is.holds.2;
    }

pub accepted_one : (text : List ℕ) (found : Certified) → IsCertified text (Some found) → HasOne text Accepts
accepted_one text found is = one_of text found Accepts is (λ p spelled accepts limit everywhere. accepts)

pub told_one : (text : List ℕ) (found : Certified) (a : Answer) (room : List ℕ) (needed : ℕ) → IsCertified text (Some found)
    → IsListed found.cert room needed → bound_of a ≡ found.bound → a.reads ≡ length found.cert.reads → a.writes ≡ length found.cert.writes
    → HasOne text (IsTold a room needed)
told_one text found a room needed is listed bound reads writes =
    one_of text found (IsTold a room needed) is
    (λ p spelled accepts limit everywhere.
    record {
      accepts = accepts;
      safe = safe text p found.cert spelled accepts;
      everywhere = safe_everywhere text p found.cert spelled accepts;
      listed = listed;
      limited = record {
        limit = subst (IsLimit p found.cert) (sym bound) limit;
        everywhere = subst (IsLimitEverywhere p) (sym bound) everywhere;
        reads = reads;
        writes = writes;
      };
    })

-- the lists that don't fit need so much room
pub needed_one : {Put Small : Type 0} (text : List ℕ) (found : Certified) (status needed : ℕ) → IsCertified text (Some found)
    → (status ≡ 4) ⊎ (needed ≡ length (lists_of found.cert)) → Putting status Put Small → status ≡ 5 → IsNeeded text needed × Small
needed_one text found status needed is (inl memory) putting e = absurd (omega (arith, memory, e))
needed_one text found status needed is (inr long) putting e = (
  one_of text found (λ p c. Accepts p c × (needed ≡ length (lists_of c))) is (λ p spelled accepts limit everywhere. (accepts, long)),
  put_small status putting e,
)

-- no script has one and none
pub one_or_none : (text : List ℕ) → HasNone text → HasOne text Accepts → ⊥
one_or_none text none one = none.holds one.cert (subst (λ p. Accepts p one.cert) (none.spelled.only one.program one.spelled.spells) one.holds)

-- ---- A script that is refused

pub no_program : (text : List ℕ) (why : ScriptFault) → IsRefusedAs text why → status_of (Err (faults.Script why)) ≢ 4 → (p : Program) → ¬ Spells text p
no_program text script.OutOfMemory is some = absurd (some refl)
no_program text why is some = is.0

pub script_fault_told : (text : List ℕ) (a : Answer) (why : ScriptFault) → TellsScriptFault a why → IsRefusedAs text why
    → status_of (Err (faults.Script why)) ≡ 2 → TellsScriptFaultOf text a
script_fault_told text a script.OutOfMemory tells is e = absurd (omega (arith, e))
script_fault_told text a why tells is e = (why, tells, λ memory. cc, is.1)

-- what `parse` says of a text that it refuses
pub refused_as : (text : List ℕ) (why : ScriptFault) → (why ≢ script.OutOfMemory → (p : Program) → Spells text p → ⊥) → IsScriptFaultOf text why
    → IsRefusedAs text why
refused_as text script.OutOfMemory refused is = tt
refused_as text why refused is = (refused (λ e. cc), is)

-- of such a text there is neither one nor none
pub unspelled_one : (text : List ℕ) (why : ScriptFault) → IsRefusedAs text why → status_of (Err (faults.Script why)) ≢ 4 → HasOne text Accepts → ⊥
unspelled_one text why is some one = no_program text why is some one.program one.spelled.spells

pub unspelled_none : (text : List ℕ) (why : ScriptFault) → IsRefusedAs text why → status_of (Err (faults.Script why)) ≢ 4 → HasNone text → ⊥
unspelled_none text why is some none = no_program text why is some none.program none.spelled.spells

pub fault_within : {status : ℕ} → (status ≤ 2) ⊎ (status ≡ 4) → (status ≤ 2) ⊎ (status ≡ 4) ⊎ (status ≡ 5)
fault_within (inl low) = inl low
fault_within (inr memory) = inr (inl memory)

-- no fault has the status of a room
pub fault_has_room : (status : ℕ) → (status ≤ 2) ⊎ (status ≡ 4) → status ≡ 5 → ⊥
fault_has_room status (inl low) e = absurd (omega (arith, low, e))
fault_has_room status (inr memory) e = absurd (omega (arith, memory, e))

-- ---- What the engine answers

-- its answer, over these streams
abbrev pub Answered : Option (List ℕ) → Bool → Writing → Result Outcome RunFault → Type 0
Answered bytes failed out result =
    EngineAnswers (record { script = Some (record { bytes = bytes; failed = failed }); certificate = None; out = out })
    (λ outcome report. OfBytes bytes (λ text. RanksTo text outcome report)) result

pub engine_finds : (bytes : Option (List ℕ)) (failed : Bool) (out : Writing) (result : Result Outcome RunFault) → Answered bytes failed out result
    → IfOk result (IsSearched bytes out.before out.after)
engine_finds bytes failed out (Ok outcome) is = is
engine_finds bytes failed out (Err fault) is = tt

unspelled : (bytes : Option (List ℕ)) (why : ScriptFault) → OfBytes bytes (λ text. IsRefusedScript text why)
    → OfBytes bytes (λ text. (p : Program) → ¬ Spells text p)
unspelled None why is = (is.0, is.1.none)
unspelled (Some text) why is = is.none

fault_refuses : (bytes : Option (List ℕ)) (failed : Bool) (out : Writing) (fault : RunFault) → Answered bytes failed out (Err fault) → IsRefusedIn bytes fault
fault_refuses bytes failed out (run.Script why) is = unspelled bytes why is.1
fault_refuses bytes failed out (run.Certificate why) is = absurd is.2
fault_refuses bytes failed out (run.Read input) is = tt
fault_refuses bytes failed out run.Write is = tt
fault_refuses bytes failed out run.OutOfMemory is = tt

pub engine_refuses : (bytes : Option (List ℕ)) (failed : Bool) (out : Writing) (result : Result Outcome RunFault) → Answered bytes failed out result
    → IfErr result (IsRefusedIn bytes)
engine_refuses bytes failed out (Ok outcome) is = tt
engine_refuses bytes failed out (Err fault) is = fault_refuses bytes failed out fault is

-- of known bytes
pub refused_known : (text : List ℕ) (bytes : Option (List ℕ)) (fault : RunFault) → bytes ≡ Some text → IsRefusedIn bytes fault → IsRefusedBy text fault
refused_known text bytes (run.Script why) known is = subst (λ b. OfBytes b (λ t. (p : Program) → ¬ Spells t p)) known is
refused_known text bytes (run.Certificate why) known is = absurd is
refused_known text bytes (run.Read input) known is = tt
refused_known text bytes run.Write known is = tt
refused_known text bytes run.OutOfMemory known is = tt
