-- What is known of the answer of `plain_text`, case by case.
use Rattle.std.proofs.Common.{◌≡◌, ◌∙◌, ℕ, Bool, true, false, List, Result, Ok, Err, Vec, Global, sym, ap, subst, refl}
use Rattle.std.specs.Prelude.{◌↔◌, IfOk, IfErr, if◌then◌else◌}
use Rattle.std.proofs.lemmas.Bool.{false≢true}
use Rattle.sedck_commands.specs.Program.{Program}
use Rattle.sedck_script.specs.Spelling.{Spells}
use Rattle.sedck_commands.specs.Faults.{IsOfText, IsPlaced}
use Rattle.sedck_commands.specs.declared.fault.ScriptFault.{ScriptFault}
use Rattle.sedck_plain.specs.declared.plain.Fault.{Fault}
use Rattle.sedck_plain.specs.declared.plain.Fault.TheVariants as fault
use Rattle.sedck_plain.specs.WrittenLists.{HaveSameLists}
use Rattle.sedck_plain.specs.Plain.{SpellSame, IsOutOfMemory, IsRefused, IsNoRefusal, ReportsFault}
use Rattle.sedck_plain.specs.Private.Refusals.{is_memory, unless_memory}

-- a fault for another cause than memory is one of the text
pub of_text : (why : ScriptFault) → is_memory why ≡ false → IsOfText why
of_text why other e = false≢true (sym other ∙ ap is_memory e)

-- a text that spells a script with its lists spells the same as what the script was read from
pub same_all : (script : List ℕ) (p : Program) (r : Result (Vec ℕ Global) Fault) → Spells script p → ((q : Program) → Spells script q → q ≡ p)
    → IfOk r (λ text. Spells text.items p) → IfOk r (λ text. HaveSameLists script text.items) → IfOk r (λ text. SpellSame script text.items)
same_all script p (Ok text) spelled only same lists = record { program = p; spelled = spelled; only = only; same = same; lists = lists }
same_all script p (Err why) spelled only same lists = tt

-- a script that isn't read is refused exactly where it spells none, unless memory ran out
refused_by : (A : Type 0) (text : List ℕ) (why : ScriptFault) (b : Bool) → is_memory why ≡ b → (IsOfText why → (q : Program) → Spells text q → ⊥)
    → (¬ IsOutOfMemory {A = A} (Err (if b then fault.OutOfMemory else fault.Script why)))
    → IsRefused {A = A} (Err (if b then fault.OutOfMemory else fault.Script why)) ↔ ((p : Program) → ¬ Spells text p)
refused_by A text why true is refused memory = absurd (memory tt)
refused_by A text why false is refused memory = ((λ x p s. refused (of_text why is) p s), (λ x. tt))

pub refused_none : (A : Type 0) (text : List ℕ) (why : ScriptFault) (other : Fault) → other ≡ unless_memory why (fault.Script why) → (IsOfText why → (q : Program) → Spells text q → ⊥)
    → (¬ IsOutOfMemory {A = A} (Err other)) → IsRefused {A = A} (Err other) ↔ ((p : Program) → ¬ Spells text p)
refused_none A text why other same refused =
    subst (λ f. (¬ IsOutOfMemory {A = A} (Err f)) → IsRefused {A = A} (Err f) ↔ ((p : Program) → ¬ Spells text p)) (sym same)
    (refused_by A text why (is_memory why) refl refused)

-- what is reported of a script that isn't read
reported_by : (A : Type 0) (text : List ℕ) (why : ScriptFault) (b : Bool) → IsPlaced text why
    → ReportsFault {A = A} text (Err (if b then fault.OutOfMemory else fault.Script why))
reported_by A text why true placed = tt
reported_by A text why false placed = placed

pub reported_none : (A : Type 0) (text : List ℕ) (why : ScriptFault) (other : Fault) → other ≡ unless_memory why (fault.Script why) → IsPlaced text why → ReportsFault {A = A} text (Err other)
reported_none A text why other same placed =
    subst (λ f. ReportsFault {A = A} text (Err f)) (sym same) (reported_by A text why (is_memory why) placed)

-- an answer for a script that was read isn't that it is refused
not_refused : {A : Type 0} (r : Result A Fault) → IfErr r IsNoRefusal → IsRefused r → ⊥
not_refused (Ok a) allowed is = is
not_refused (Err (fault.Script why)) allowed is = allowed
not_refused (Err why) allowed is = is

pub refused_never : {A : Type 0} (text : List ℕ) (q : Program) (r : Result A Fault) → Spells text q → IfErr r IsNoRefusal
    → (¬ IsOutOfMemory r) → IsRefused r ↔ ((p : Program) → ¬ Spells text p)
refused_never text q r spelled allowed memory = ((λ is. absurd (not_refused r allowed is)), (λ none. absurd (none q spelled)))

pub reported_never : {A : Type 0} (text : List ℕ) (r : Result A Fault) → IfErr r IsNoRefusal → ReportsFault text r
reported_never text (Ok a) allowed = tt
reported_never text (Err (fault.Script why)) allowed = absurd allowed
reported_never text (Err why) allowed = tt
