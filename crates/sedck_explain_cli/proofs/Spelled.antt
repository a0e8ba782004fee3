-- From what is written to what is promised of it.
use Rattle.sedck_explain_cli.proofs.Common.{◌≡◌, ◌∙◌, ℕ, Bool, true, false, List, [], ◌∷◌, Option, None, Result, IfOk, IfSome, inl, inr, refl, sym, subst, false≢true, Denied, Known, RunFault, on_ok, IsExplanation, IsOfAnswer, Status, Explanation, Output, Writes, IsDelivered, Holds, IsWorstOf, HasCallStatus, IsExplained, IsExplainedUnder, IsSaid, certificate_of, IsGiven, StatusAt, Request, IsPlainly, IsIn, SpellsFound, IsAnsweredCall}
use Rattle.sedck_report.specs.declared.finding.Finding.{Finding}
use Rattle.sedck_engines.specs.Inputs.{IsRead}
use Rattle.sedck_explanation.specs.Called.{known_bytes}
use Rattle.sedck_explanation.specs.Denial.{expressions_of, status_under}
use Rattle.sedck_explanation.specs.Explanations.{Keeps, KeepsScript}
use Rattle.sedck_answer.specs.declared.answer.Answer.{Answer}
use Rattle.sedck_explanation.specs.declared.answer.Expressions.{Expressions}
use Rattle.sedck_answer.specs.declared.answer.Answer.TheVariants.{Accepted, Rejected, Endless, ScriptRefused, CertificateRefused, NotJudged}
use Rattle.sedck_answer.specs.declared.status.Status.TheVariants as exit
use Rattle.sedck_plain.specs.WrittenLists.{HaveSameLists}
use Rattle.sedck_formats.specs.Plain.{IsPlainStatus, IsPlainOutput}
use Rattle.sedck_call.specs.Scripts.{joined_texts}
use Rattle.sedck_calls_in_files.specs.Judged.{AskedOfCalls}
use Rattle.sedck_explain_cli.specs.Answers.{HasOneStatus}
use Rattle.sedck_explain_cli.specs.Private.Said.{IsExplainedAt}
use Rattle.sedck_explain_cli.proofs.Greatest.{yes_gives_way}
use Rattle.sedck_explain_cli.specs.Spelled.{Copies, WritesSame, SpellsAt, CopiesCall}

-- ---- The status

-- what is written with that of a yes is accepted
pub judged_yes : (judged status : Status) → IsPlainStatus judged status → status ≡ exit.Accepted → judged ≡ exit.Accepted
judged_yes judged status (inl same) accepted = sym same ∙ accepted
judged_yes judged status (inr both) accepted = both.0

pub of_answer : (judged status : Status) → IsPlainStatus judged status → IsOfAnswer judged → IsOfAnswer status
of_answer judged status (inl same) few = subst IsOfAnswer (sym same) few
of_answer judged status (inr both) few = subst IsOfAnswer (sym both.1) ((λ e. cc e), (λ e. cc e), (λ e. cc e))

-- in one format or another
delivered_yes : (plain : Bool) (known : Option (List ℕ)) (e : Explanation) (out err : Output) (status : Status) → IsDelivered plain known e out err status
    → status ≡ exit.Accepted → e.status ≡ exit.Accepted
delivered_yes true known e out err status d accepted = judged_yes e.status status d.is_status accepted
delivered_yes false known e out err status d accepted = sym d.is_status ∙ accepted

delivered_status : (plain : Bool) (known : Option (List ℕ)) (Has : Status → Type 0) (e : Explanation) (out err : Output) (status : Status)
    → IsDelivered plain known e out err status → Has e.status → IsIn plain Has status
delivered_status true known Has e out err status d has = (e.status, has, d.is_status)
delivered_status false known Has e out err status d has = subst Has (sym d.is_status) has

pub delivered_few : (plain : Bool) (known : Option (List ℕ)) (e : Explanation) (out err : Output) (status : Status) → IsDelivered plain known e out err status
    → IsOfAnswer e.status → IsOfAnswer status
delivered_few true known e out err status d few = of_answer e.status status d.is_status few
delivered_few false known e out err status d few = subst IsOfAnswer (sym d.is_status) few

-- ---- The script

-- an accepted script is kept
kept_script : (text : List ℕ) (denied : Denied) (findings : List Finding) (expressions : Expressions) (e : Explanation) (answer : Answer)
    → e.status ≡ status_under denied findings expressions answer → Keeps text answer e → e.status ≡ exit.Accepted → KeepsScript text e
kept_script text denied findings expressions e (Accepted cert limits) is keeps accepted = keeps
kept_script text denied findings expressions e (Rejected cert why) is keeps accepted = keeps
kept_script text denied findings expressions e (Endless walk) is keeps accepted = keeps
kept_script text denied findings expressions e (CertificateRefused why) is keeps accepted = keeps
kept_script text denied findings expressions e (ScriptRefused why) is keeps accepted = let clash : exit.Refused ≡ exit.Accepted = sym is ∙ accepted in cc clash
kept_script text denied findings expressions e NotJudged is keeps accepted = let clash : exit.Refused ≡ exit.Accepted = sym is ∙ accepted in cc clash

-- what spells it is a copy of the text
copied : (text : List ℕ) (e : Explanation) (out : Output) → KeepsScript text e → IfSome e.script (Writes out e.source.now) → Copies text out
copied text e out kept writes =
    let written = subst (λ script. IfSome script (Writes out e.source.now)) kept.is_kept writes in
    let lists = subst (λ source. HaveSameLists source written.0) kept.source written.2 in
    (written.0, record { program = kept.script; spelled = kept.spelled.spells; only = kept.spelled.only; same = written.1; lists = lists }, written.3)

pub copied_yes : (text : List ℕ) (given : Option (List ℕ)) (denied : Denied) (e : Explanation) (out : Output) → IsExplanation text given denied e
    → e.status ≡ exit.Accepted → IfSome e.script (Writes out e.source.now) → Copies text out
copied_yes text given denied e out is accepted writes =
    copied text e out (kept_script text denied e.findings.items (expressions_of e.script) e e.answer is.is_status is.keeps accepted) writes

-- ---- What is written

writes_same : (text : List ℕ) (given : Option (List ℕ)) (denied : Denied) (e : Explanation) (out : Output) (status : Status)
    → IsExplanation text given denied e → IsPlainStatus e.status status → IsPlainOutput e out status → WritesSame text out status
writes_same text given denied e out status is same writes = record {
  spelled = λ accepted. copied_yes text given denied e out is (judged_yes e.status status same accepted) (writes.spelled accepted);
  kept = writes.kept;
}

-- of a script
pub explained : (plain : Bool) (known : Explanation → Option (List ℕ)) (text : List ℕ) (given : Option (List ℕ)) (denied : Denied) (e : Explanation)
    (out err : Output) (status : Status) → IsExplanation text given denied e → IsDelivered plain (known e) e out err status
    → IsExplained plain known text given denied out err status
explained true known text given denied e out err status is d = record {
  explanation = e;
  is_explanation = is;
  is_status = d.is_status;
  reported = d.reported;
  writes = λ plainly. writes_same text given denied e out status is d.is_status (d.writes plainly);
  silent = d.silent;
}
explained false known text given denied e out err status is d = record {
  explanation = e;
  is_explanation = is;
  is_status = d.is_status;
  reported = d.reported;
  writes = λ plainly. absurd (false≢true plainly);
  silent = d.silent;
}

-- and of a call
pub answered_call : (mends plain : Bool) (known : Option (List ℕ)) (k : Known) (denied : Denied) (words : List (List ℕ)) (e : Explanation) (out err : Output)
    (status : Status) → IsSaid mends k denied words e → IsDelivered plain known e out err status → IsAnsweredCall mends plain k denied words out err status
answered_call mends plain known k denied words e out err status said d =
    let is_yes : status ≡ exit.Accepted → e.status ≡ exit.Accepted = delivered_yes plain known e out err status d in
    let few = delivered_few plain known e out err status d said.few in
    record {
      few = (few.0, few.1, (λ none. few.2));
      has_status = delivered_status plain known (HasCallStatus mends k denied words) e out err status d said.has_status;
      spelled = λ plainly. record {
        spelled = λ accepted. copied_call (is_yes accepted) ((d.writes plainly).spelled accepted);
        mended = λ unknown. absurd (few.2 unknown);
        kept = λ other _. (d.writes plainly).kept other;
      };
      silent = d.silent;
      yes = λ accepted. (said.yes (is_yes accepted)).0;
    }
  where
    copied_call : e.status ≡ exit.Accepted → IfSome e.script (Writes out e.source.now) → CopiesCall k denied words out
    copied_call accepted writes =
        let yes = said.yes accepted in
        (yes.0, copied_yes (joined_texts yes.0.parts) None denied e out yes.1 accepted writes)

-- ---- Scripts

-- of the script at a path
pub explained_at : (k : Known) (request : Request) (path text : List ℕ) (given : Option (List ℕ)) (plain : Bool)
    (out err : Output) (r : Result Status RunFault) → IsRead 1048577 (known_bytes k path) text → IsGiven k (certificate_of request) given
    → IfOk r (IsExplainedUnder request.mends plain text given request.denied out err) → IfOk r (IsExplainedAt k request path plain out err)
explained_at k request path text given plain out err r is_text is_given is =
    on_ok (IsExplainedUnder request.mends plain text given request.denied out err) (IsExplainedAt k request path plain out err) r
    (λ status e. record { text = text; is_text = is_text; given = given; is_given = is_given; is_explained = e }) is

-- of one that is reported
pub report_status : (k : Known) (request : Request) (path : List ℕ) (out err : Output) (status : Status) → IsExplainedAt k request path false out err status
    → StatusAt k request path status
report_status k request path out err status s = record {
  text = s.text;
  is_text = s.is_text;
  given = s.given;
  is_given = s.is_given;
  explanation = s.is_explained.explanation;
  is_explanation = s.is_explained.is_explanation;
  is_status = s.is_explained.is_status;
}

-- of one that is spelled plainly
pub plain_status : (k : Known) (request : Request) (path : List ℕ) (out err : Output) (status : Status) → IsExplainedAt k request path true out err status
    → IsPlainly (StatusAt k request path) status
plain_status k request path out err status s = (
  s.is_explained.is_status.0,
  record {
    text = s.text;
    is_text = s.is_text;
    given = s.given;
    is_given = s.is_given;
    explanation = s.is_explained.explanation;
    is_explanation = s.is_explained.is_explanation;
    is_status = s.is_explained.is_status.1;
  },
  s.is_explained.is_status.2,
)

pub plain_spelled : (k : Known) (request : Request) (path : List ℕ) (out err : Output) (status : Status) → IsExplainedAt k request path true out err status
    → SpellsAt k request path out status
plain_spelled k request path out err status s = record {
  text = s.text;
  is_text = s.is_text;
  given = s.given;
  is_given = s.is_given;
  is_spelled = record {
    explanation = s.is_explained.explanation;
    is_explanation = s.is_explained.is_explanation;
    is_status = s.is_explained.is_status;
    writes = s.is_explained.writes refl;
  };
}

-- and of the only one
pub one_greatest : (Has : List ℕ → Status → Type 0) (paths : List (List ℕ)) (path : List ℕ) (status : Status) → paths ≡ path ∷ [] → IsPlainly (Has path) status
    → IsPlainly (IsWorstOf Has exit.Accepted paths) status
one_greatest Has paths path status same has =
    subst (λ paths. IsPlainly (IsWorstOf Has exit.Accepted paths) status) (sym same) (has.0, (has.0, has.1, yes_gives_way has.0), has.2)

-- ---- Calls in files

pub found_status : (k : Known) (found : List ℕ → List ℕ → Option Holds) (asked : AskedOfCalls) (paths : List (List ℕ)) (out : Output) (status : Status)
    → SpellsFound k found asked paths out status → IsPlainly (HasOneStatus k found asked paths) status
found_status k found asked [] out status s = absurd s
found_status k found asked (path ∷ []) out status s = (s.explanation.status, (s.explanation, s.is_said, refl), s.is_status)
found_status k found asked (path ∷ other ∷ more) out status s = absurd s
