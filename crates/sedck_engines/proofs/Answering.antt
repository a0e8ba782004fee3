-- From what was read to what an engine answers.
use Rattle.sedck_engines.proofs.Common.{◌≡◌, ◌≢◌, ◌⊎◌, ◌<◌, ◌≤◌, ℕ, length, take, Bool, List, Option, Some, None, Result, Ok, Err, refl, subst, sym, ap, ◌∙◌, ◌++◌, arith, inl, inr, Keeps-refl, cases_lt, take_all, length-take, Program, line, files_text, certificate_text, run_fault, script_fault, certificate_fault, IsCheckReport, IsFilesReport, IsGraphReport, IsBoundLine, IsRankReport, bound_line}
use Rattle.std.proofs.Common.{codes}
use Rattle.std.specs.Result.{IsErrAnd}
use Rattle.sedck_script.specs.Spelling.{Spells}
use Rattle.sedck_commands.specs.Faults.{IsPlaced}
use Rattle.sedck_commands.specs.declared.fault.ScriptFault.{ScriptFault}
use Rattle.sedck_commands.specs.declared.fault.ScriptFault.TheVariants as script
use Rattle.sedck_cert.specs.Certificate.{Certificate}
use Rattle.sedck_cert.specs.Versions.{SpellsCertificate, IsFaultIn}
use Rattle.sedck_script.specs.FirstFault.{IsFirstFault}
use Rattle.sedck_cert.specs.Headline.{Only, IsAnswered, IsOutOfMemory, IsScriptFaultOf, ReportsFault, IsLimit, IsJudged}
use Rattle.sedck_cert.specs.declared.checking.Verdict.TheVariants.{Accepted}
use Rattle.sedck_cert.specs.declared.limits.Bound.{Bound}
use Rattle.sedck_cert.specs.declared.verifying.Judged.{Judged}
use Rattle.sedck_cert.specs.declared.verifying.Fault.{Fault}
use Rattle.sedck_cert.specs.declared.verifying.Fault.TheVariants as below
use Rattle.sedck_cert.specs.declared.reading.CertFault.{CertFault}
use Rattle.sedck_cert.specs.declared.reading.CertFault.TheVariants as cert
use Rattle.sedck_cert.proofs.TextLength.{text_length_of_spelled, front_is_whole}
use Rattle.sedck_engines.specs.declared.answer.Outcome.{Outcome}
use Rattle.sedck_engines.specs.declared.answer.Outcome.TheVariants.{Yes}
use Rattle.sedck_engines.specs.Engines.{ReportsScriptTo, verdict_outcome, ChecksTo, ListsFilesTo, ListsGraphTo, EngineAnswers, OfBytes, OfScript, UpgradesTo, IsRefusedScript, IsRefusedCertificate, RanksTo, Reading, Writing, Streams}
use Rattle.sedck_engines.specs.Inputs.{IsRead}
use Rattle.sedck_engines.specs.Private.Engines.{IsScriptReport, WritesReport}
use Rattle.sedck_engines.specs.declared.answer.RunFault.{RunFault}
use Rattle.sedck_engines.specs.declared.engines.ScriptReport.{ScriptReport}
use Rattle.sedck_engines.specs.declared.engines.ScriptReport.TheVariants.{Files, Graph, Rank}

-- an error that is this one
pub err_is : {T E : Type 0} (r : Result T E) (e : E) → IsErrAnd r (λ x. x ≡ e) → r ≡ Err e
err_is (Ok x) e is = absurd is
err_is (Err x) e is = ap Err is

-- ---- What was read

-- the same text, as a slice of it
pub sliced : (limit : ℕ) (known : Option (List ℕ)) (text items : List ℕ) → text ≡ items → IsRead limit known items → IsRead limit known text
sliced limit known text items same is = subst (IsRead limit known) (sym same) is

-- what holds of all bytes of which the text was read
pub of_bytes : (limit : ℕ) (known : Option (List ℕ)) (text : List ℕ) (Holds : List ℕ → Type 0) → IsRead limit known text
    → ((whole : List ℕ) → text ≡ take limit whole → Holds whole) → OfBytes known Holds
of_bytes limit None text Holds is holds = (text, holds text (sym (take_all limit text is.within)))
of_bytes limit (Some whole) text Holds is holds = holds whole is.prefix

-- a prefix that isn't longer than a script may be is the whole
whole_script : (whole text : List ℕ) → text ≡ take 1048577 whole → length text ≤ 1048576 → text ≡ whole
whole_script whole text is fits = is ∙ take_all 1048577 whole (omega (arith, length-take 1048577 whole, ap length is))

-- and one that is longer is a prefix of longer bytes
long_script : (whole text : List ℕ) → text ≡ take 1048577 whole → 1048576 < length text → 1048576 < length whole
long_script whole text is long = omega (arith, length-take 1048577 whole, ap length is)

pub spells_whole : (whole text : List ℕ) (p : Program) → text ≡ take 1048577 whole → Only Spells text p → Only Spells whole p
spells_whole whole text p is spelled = subst (λ l. Only Spells l p) (whole_script whole text is spelled.spells.allowed.fits) spelled

-- the text of a script, or one that is too long
refused_whole : (whole text : List ℕ) (why : ScriptFault) → text ≡ take 1048577 whole → IsRefusedScript text why
    → (1048576 < length text) ⊎ (length text ≤ 1048576) → IsRefusedScript whole why
refused_whole whole text why is refused (inr fits) = subst (λ l. IsRefusedScript l why) (whole_script whole text is fits) refused
refused_whole whole text why is refused (inl long) =
    let longer = long_script whole text is long in
    let too_long = refused.is_fault.too_long long in
    record {
      is_of_text = refused.is_of_text;
      none = λ p spelled. absurd (omega (arith, longer, spelled.allowed.fits));
      is_fault = record {
        first = λ _. subst (IsFirstFault whole) (sym too_long) (IsFirstFault.too_long longer);
        placed = subst (IsPlaced whole) (sym too_long) (refl, longer);
        too_long = λ _. too_long;
        zero = λ place fits first. absurd (omega (arith, longer, fits));
      };
    }

pub script_refused : (whole text : List ℕ) (why : ScriptFault) → text ≡ take 1048577 whole → IsRefusedScript text why → IsRefusedScript whole why
script_refused whole text why is refused = refused_whole whole text why is refused (cases_lt 1048576 (length text))

text_of_whole : (whole bytes : List ℕ) (c : Certificate) → bytes ≡ take 1572865 whole → Only SpellsCertificate bytes c → Only SpellsCertificate whole c
text_of_whole whole bytes c is written =
    let same = is ∙ front_is_whole whole c (subst (λ l. SpellsCertificate l c) is written.spells) in subst (λ l. Only SpellsCertificate l c) same written

no_text_of_whole : (whole bytes : List ℕ) → bytes ≡ take 1572865 whole → ((c : Certificate) → ¬ SpellsCertificate bytes c) → (c : Certificate) → ¬ SpellsCertificate whole c
no_text_of_whole whole bytes is none c written =
    let short = text_length_of_spelled whole c written in
    let same = is ∙ take_all 1572865 whole (omega (arith, short)) in
    none c (subst (λ l. SpellsCertificate l c) (sym same) written)

-- a script that was read is one
script_of_whole : (whole text : List ℕ) → text ≡ take 1048577 whole → ((p : Program) × Spells text p) → (p : Program) × Spells whole p
script_of_whole whole text is script =
    let p = script.0 in (p, subst (λ l. Spells l p) (whole_script whole text is script.1.allowed.fits) script.1)

certificate_refused : (whole bytes : List ℕ) (why : CertFault) → bytes ≡ take 1572865 whole → why ≢ cert.OutOfMemory
    → ((c : Certificate) → ¬ SpellsCertificate bytes c) → IsFaultIn bytes why → IsRefusedCertificate whole why
certificate_refused whole bytes why is of_text none is_fault =
    record {
      is_of_text = of_text;
      none = no_text_of_whole whole bytes is none;
      is_fault = subst (λ l. IsFaultIn l why) is is_fault;
    }

-- bytes that spell no certificate
no_certificate : (written : Option (List ℕ)) (bytes : List ℕ) (why : CertFault) → IsRead 1572865 written bytes → why ≢ cert.OutOfMemory
    → ((c : Certificate) → ¬ SpellsCertificate bytes c) → IsFaultIn bytes why → OfBytes written (λ b. IsRefusedCertificate b why)
no_certificate written bytes why is of_text none is_fault =
    of_bytes 1572865 written bytes (λ b. IsRefusedCertificate b why) is
    (λ whole cut. certificate_refused whole bytes why cut of_text none is_fault)

-- ---- Refusals

-- a script that `parse` refuses
pub parse_refused : (source out : Option (List ℕ)) (script_failed out_failed : Bool) (IsReport : Outcome → List ℕ → Type 0)
    (text : List ℕ) (why : ScriptFault) → IsRead 1048577 source text → (why ≢ script.OutOfMemory → (p : Program) → ¬ Spells text p) → IsScriptFaultOf text why
    → EngineAnswers
    (record {
      script = Some (record { bytes = source; failed = script_failed });
      certificate = None;
      out = record { before = out; after = out; failed = out_failed };
    }) IsReport (Err (script_fault why))
parse_refused source out script_failed out_failed IsReport text script.OutOfMemory is refused reported = Keeps-refl out
parse_refused source out script_failed out_failed IsReport text why is refused reported = (
  Keeps-refl out,
  of_bytes 1048577 source text (λ t. IsRefusedScript t why) is
      (λ whole front. script_refused whole text why front (record { is_of_text = λ e. cc; none = refused (λ e. cc); is_fault = reported })),
)

-- a script or a certificate that `judge` refuses
pub judge_refused : (source written out : Option (List ℕ)) (script_failed cert_failed out_failed : Bool) (IsReport : Outcome → List ℕ → Type 0)
    (text bytes : List ℕ) (why : Fault) → IsRead 1048577 source text → IsRead 1572865 written bytes
    → ((¬ IsOutOfMemory (Err why)) → IsAnswered text bytes (Err why)) → ReportsFault text bytes (Err why)
    → EngineAnswers
    (record {
      script = Some (record { bytes = source; failed = script_failed });
      certificate = Some (record { bytes = written; failed = cert_failed });
      out = record { before = out; after = out; failed = out_failed };
    }) IsReport (Err (run_fault why))
judge_refused source written out script_failed cert_failed out_failed IsReport text bytes (below.Script script.OutOfMemory) is_text is_bytes answer reported =
    Keeps-refl out
judge_refused source written out script_failed cert_failed out_failed IsReport text bytes (below.Certificate cert.OutOfMemory) is_text is_bytes answer reported =
    Keeps-refl out
judge_refused source written out script_failed cert_failed out_failed IsReport text bytes (below.Script why) is_text is_bytes answer reported = (
  Keeps-refl out,
  of_bytes 1048577 source text (λ t. IsRefusedScript t why) is_text
      (λ whole front. script_refused whole text why front
      (record { is_of_text = λ e. cc; none = (answer (λ want. want)).script_fault.0 tt; is_fault = reported })),
)
judge_refused source written out script_failed cert_failed out_failed IsReport text bytes (below.Certificate why) is_text is_bytes answer (inl memory) = cc
judge_refused source written out script_failed cert_failed out_failed IsReport text bytes (below.Certificate why) is_text is_bytes answer (inr is_fault) =
    let both = (answer (λ want. want)).certificate_fault.0 tt in (
      Keeps-refl out,
      of_bytes 1048577 source text (λ t. (p : Program) × Spells t p) is_text (λ whole front. script_of_whole whole text front both.0),
      no_certificate written bytes why is_bytes (λ e. cc) both.1 is_fault,
    )

-- a certificate that `read_any` refuses
pub read_refused : (written out : Option (List ℕ)) (cert_failed out_failed : Bool) (IsReport : Outcome → List ℕ → Type 0)
    (bytes : List ℕ) (why : CertFault) → IsRead 1572865 written bytes
    → (why ≡ cert.OutOfMemory) ⊎ (((c : Certificate) → ¬ SpellsCertificate bytes c) × IsFaultIn bytes why)
    → EngineAnswers
    (record {
      script = None;
      certificate = Some (record { bytes = written; failed = cert_failed });
      out = record { before = out; after = out; failed = out_failed };
    }) IsReport (Err (certificate_fault why))
read_refused written out cert_failed out_failed IsReport bytes cert.OutOfMemory is refused = Keeps-refl out
read_refused written out cert_failed out_failed IsReport bytes why is (inl memory) = cc
read_refused written out cert_failed out_failed IsReport bytes why is (inr refused) =
    (Keeps-refl out, tt {0}, no_certificate written bytes why is (λ e. cc) refused.0 refused.1)

-- ---- Reports

-- the line of the limit
limit_line : (p : Program) (c : Certificate) (bound : Option Bound) → IsLimit p c bound → IsBoundLine p c (bound_line bound)
limit_line p c None never = inr (never, refl)
limit_line p c (Some b) limit = inl (limit.0, (b, limit.1, refl))

pub accepted_report : (p : Program) (c : Certificate) (bound : Option Bound) (report : List ℕ) → IsLimit p c bound
    → report ≡ line (codes "accepted") ++ bound_line bound ++ files_text c.reads c.writes → IsCheckReport p c Accepted report
accepted_report p c bound report limit is = (bound_line bound, limit_line p c bound limit, is)

-- the report of what was judged, of the sources' bytes, where they are known
pub checks_to : (script cert : Option (List ℕ)) (text bytes : List ℕ) (judged : Judged) (report : List ℕ) → IsRead 1048577 script text
    → IsRead 1572865 cert bytes → IsJudged text bytes judged → IsCheckReport judged.script judged.cert judged.verdict report
    → OfBytes script (λ t. OfBytes cert (λ b. ChecksTo t b (verdict_outcome judged.verdict) report))
checks_to script cert text bytes judged report is_text is_bytes is reported =
    of_bytes 1048577 script text (λ t. OfBytes cert (λ b. ChecksTo t b (verdict_outcome judged.verdict) report)) is_text
    (λ whole front. of_bytes 1572865 cert bytes (λ b. ChecksTo whole b (verdict_outcome judged.verdict) report) is_bytes
    (λ whole_bytes cut. (
      judged.verdict,
      refl,
      record {
        program = judged.script;
        spelled = spells_whole whole text judged.script front is.spelled;
        cert = judged.cert;
        written = text_of_whole whole_bytes bytes judged.cert cut is.written;
        holds = (is.is_verdict, reported);
      },
    )))

-- what is reported of the script that was read
of_script : (whole text : List ℕ) (p : Program) (Holds : Program → Type 0) → text ≡ take 1048577 whole → Spells text p
    → ((q : Program) → Spells text q → q ≡ p) → Holds p → OfScript whole Holds
of_script whole text p Holds front spelled only holds =
    record { program = p; spelled = spells_whole whole text p front (record { spells = spelled; only = only }); holds = holds }

-- the report on the script that was read
pub reports_script_to : (kind : ScriptReport) (known : Option (List ℕ)) (text : List ℕ) (p : Program) (outcome : Outcome) (report : List ℕ)
    → IsRead 1048577 known text → Spells text p → ((q : Program) → Spells text q → q ≡ p) → IsScriptReport kind p outcome report
    → OfBytes known (λ t. ReportsScriptTo kind t outcome report)
reports_script_to Files known text p outcome report is spelled only holds =
    of_bytes 1048577 known text (λ t. ListsFilesTo t outcome report) is
    (λ whole front. (holds.0, of_script whole text p (λ q. IsFilesReport q report) front spelled only holds.1))
reports_script_to Graph known text p outcome report is spelled only holds =
    of_bytes 1048577 known text (λ t. ListsGraphTo t outcome report) is
    (λ whole front. (holds.0, of_script whole text p (λ q. IsGraphReport q report) front spelled only holds.1))
reports_script_to Rank known text p outcome report is spelled only holds =
    of_bytes 1048577 known text (λ t. RanksTo t outcome report) is
    (λ whole front. (holds.0, holds.1, of_script whole text p (λ q. IsRankReport q holds.0 report) front spelled only holds.2))

-- the text of the certificate that was read
pub upgrades_to : (known : Option (List ℕ)) (bytes : List ℕ) (c : Certificate) → IsRead 1572865 known bytes → SpellsCertificate bytes c
    → ((d : Certificate) → SpellsCertificate bytes d → d ≡ c) → OfBytes known (λ b. UpgradesTo b Yes (certificate_text c))
upgrades_to known bytes c is written only =
    of_bytes 1572865 known bytes (λ b. UpgradesTo b Yes (certificate_text c)) is
    (λ whole front. (
      refl,
      record { cert = c; written = text_of_whole whole bytes c front (record { spells = written; only = only }); holds = refl },
    ))

-- the report, once it is written
pub reported : (script certificate : Option Reading) (out : Writing) (IsReport : Outcome → List ℕ → Type 0) (outcome : Outcome) (report : List ℕ)
    (result : Result Outcome RunFault) → IsReport outcome report → WritesReport out outcome report result
    → EngineAnswers (record { script = script; certificate = certificate; out = out }) IsReport result
reported script certificate out IsReport outcome report (Ok written) is writes = (report, subst (λ o. IsReport o report) (sym writes.0) is, writes.1)
reported script certificate out IsReport outcome report (Err why) is writes =
    let s : Streams = record { script = script; certificate = certificate; out = out } in
    subst (λ w. EngineAnswers s IsReport (Err w)) (sym writes.0) (writes.1, (outcome, report, is, writes.2))
