-- From what was explained to the status of what the words ask for.
use Rattle.sedck_explain_cli.proofs.Common.{◌≡◌, ℕ, Bool, true, false, List, Option, Some, inl, inr, subst, String, Global, Known, Status, Accepted, Output, Holds, IsWorstOf, HasCallStatus, texts_of, scripts_of, asked_by, is_plain, IsIn, IsPlainly, SpellsScript, SpellsFound, Request, StatusAt, call_of}
use Rattle.std.specs.Prelude.{MatchBool}
use Rattle.sedck_explain_cli.specs.Requests.{IsRequest}
use Rattle.sedck_explain_cli.specs.Spelled.{SpellsCall}
use Rattle.sedck_explain_cli.proofs.Spelled.{found_status}
use Rattle.sedck_explain_cli.specs.declared.words.Words.{Words}
use Rattle.sedck_explain_cli.specs.Answers.{asks_for_help, HasStatusFor, IsAnswered, SpellsGiven, SpellsFor, IsWritten}

-- ---- By what is asked for

pub scripts_status : (k : Known) (found : List ℕ → List ℕ → Option Holds) (request : Request) (call : Option (List (List ℕ))) (status : Status)
    → is_plain request.format ≡ false → request.calls ≡ false → request.sed ≡ false → IsWorstOf (StatusAt k request) Accepted (scripts_of request) status
    → HasStatusFor k found request call status
scripts_status k found request call status other calls sed has = rw (other, calls, sed) has

pub plain_found : (k : Known) (found : List ℕ → List ℕ → Option Holds) (request : Request) (call : Option (List (List ℕ))) (out : Output) (status : Status)
    → is_plain request.format ≡ true → request.calls ≡ true → SpellsFound k found (asked_by request) (scripts_of request) out status
    → HasStatusFor k found request call status
plain_found k found request call out status plain calls has =
    let one = found_status k found (asked_by request) (scripts_of request) out status has in rw (plain, calls) one

pub plain_scripts : (k : Known) (found : List ℕ → List ℕ → Option Holds) (request : Request) (call : Option (List (List ℕ))) (status : Status)
    → is_plain request.format ≡ true → request.calls ≡ false → request.sed ≡ false
    → IsPlainly (IsWorstOf (StatusAt k request) Accepted (scripts_of request)) status → HasStatusFor k found request call status
plain_scripts k found request call status plain calls sed has = rw (plain, calls, sed) has

pub call_status : (k : Known) (found : List ℕ → List ℕ → Option Holds) (request : Request) (call : Option (List (List ℕ))) (words : List (List ℕ))
    (status : Status) → request.calls ≡ false → request.sed ≡ true → call ≡ Some words
    → IsIn (is_plain request.format) (HasCallStatus request.mends k request.denied words) status → HasStatusFor k found request call status
call_status k found request call words status calls sed is has = rw (calls, sed, is) has

-- ---- What is written

pub found_spelled : (k : Known) (found : List ℕ → List ℕ → Option Holds) (request : Request) (call : Option (List (List ℕ))) (out : Output) (status : Status)
    → request.calls ≡ true → SpellsFound k found (asked_by request) (scripts_of request) out status → SpellsFor k found request call out status
found_spelled k found request call out status calls spells = rw calls spells

pub call_spelled : (k : Known) (found : List ℕ → List ℕ → Option Holds) (request : Request) (call : Option (List (List ℕ))) (words : List (List ℕ))
    (out : Output) (status : Status) → request.calls ≡ false → request.sed ≡ true → call ≡ Some words
    → SpellsCall request.mends k request.denied words out status
    → SpellsFor k found request call out status
call_spelled k found request call words out status calls sed is spells = rw (calls, sed, is) spells

-- the last of three, where neither of the others is chosen
last_of : (A B C : Type 0) (first second : Bool) → first ≡ false → second ≡ false → C → MatchBool first A (MatchBool second B C)
last_of A B C first second one other c = rw (one, other) c

pub script_spelled : (k : Known) (found : List ℕ → List ℕ → Option Holds) (request : Request) (call : Option (List (List ℕ))) (out : Output) (status : Status)
    → request.calls ≡ false → request.sed ≡ false → SpellsScript k request (scripts_of request) out status → SpellsFor k found request call out status
script_spelled k found request call out status calls sed spells =
    last_of (SpellsFound k found (asked_by request) (scripts_of request) out status) (SpellsGiven request.mends k request.denied call out status)
    (SpellsScript k request (scripts_of request) out status) request.calls request.sed calls sed spells

-- ---- By the words

pub written : (k : Known) (found : List ℕ → List ℕ → Option Holds) (words : Words) (own : List (String Global)) (request : Request) (out : Output) (status : Status)
    → own ≡ words.own.items → IsRequest (texts_of own) request → (is_plain request.format ≡ true → SpellsFor k found request (call_of words) out status)
    → IsWritten k found words out status
written k found words own request out status same is spells = inl (request, subst (λ own. IsRequest (texts_of own) request) same is, spells)

pub help_written : (k : Known) (found : List ℕ → List ℕ → Option Holds) (words : Words) (own : List (String Global)) (out : Output) (status : Status)
    → own ≡ words.own.items → asks_for_help own ≡ true → IsWritten k found words out status
help_written k found words own out status same help = inr (subst (λ own. asks_for_help own ≡ true) same help)

pub answered : (k : Known) (found : List ℕ → List ℕ → Option Holds) (words : Words) (own : List (String Global)) (request : Request) (status : Status)
    → own ≡ words.own.items → IsRequest (texts_of own) request → HasStatusFor k found request (call_of words) status
    → IsAnswered k found words status
answered k found words own request status same is has = inl (request, subst (λ own. IsRequest (texts_of own) request) same is, has)

pub helped : (k : Known) (found : List ℕ → List ℕ → Option Holds) (words : Words) (own : List (String Global)) (status : Status)
    → own ≡ words.own.items → (status ≡ Accepted) × (asks_for_help own ≡ true) → IsAnswered k found words status
helped k found words own status same help = inr (help.0, subst (λ own. asks_for_help own ≡ true) same help.1)
