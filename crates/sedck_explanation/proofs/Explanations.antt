-- From an answer to its explanation.
use Rattle.sedck_explanation.proofs.Common.{◌≡◌, ◌∙◌, ℕ, List, Option, Some, None, Result, Ok, Err, IfOk, length, map, sym, ap, subst, Program, Item, Items, locations_of, Certificate, Spells, Only, position_in, Denied, IsAnswer, KeepsNothing, IsExplanation, IsRefused, Explains, KeepsLocated, Answer, ScriptRefused, CertificateRefused, Accepted, Rejected, Endless, NotJudged, Explanation}
use Rattle.sedck_script.specs.Names.{reads, writes}
use Rattle.sedck_commands.specs.declared.location.Location.{Location}
use Rattle.sedck_flow.specs.Run.{NamesForReading, NamesForWriting}
use Rattle.sedck_cert.specs.Ranked.{Accepts}
use Rattle.sedck_cert.proofs.NamesListed.{reads_listed, writes_listed, only_list}
use Rattle.sedck_explanation.specs.Explanations.{Keeps}
use Rattle.sedck_explanation.specs.Private.Errors.{IsOfScript}

-- what follows from two promises on success
pub on_both : {T E : Type 0} (P Q R : T → Type 0) (r : Result T E) → ((x : T) → P x → Q x → R x) → IfOk r P → IfOk r Q → IfOk r R
on_both P Q R (Ok x) follows one two = follows x one two
on_both P Q R (Err e) follows one two = one

-- an accepted certificate has the names of the script
accepted_names : (p q : Program) (cert : Certificate) → q ≡ p → Accepts q cert → (cert.reads ≡ reads p) × (cert.writes ≡ writes p)
accepted_names p q cert same accepts =
    let mine : Accepts p cert = subst (λ x. Accepts x cert) same accepts in (
      (only_list (NamesForReading p) (reads p) cert.reads (reads_listed p)).1 mine.reads,
      (only_list (NamesForWriting p) (writes p) cert.writes (writes_listed p)).1 mine.writes,
    )

-- what is known of the answer for a script that was read
pub of_script : (text : List ℕ) (given : Option (List ℕ)) (p : Program) (answer : Answer) → Only Spells text p → IsAnswer text given answer
    → IsOfScript text p answer
of_script text given p (ScriptRefused why) spelled is = (is.0, is.2.placed)
of_script text (Some bytes) p (Accepted cert limits) spelled is =
    accepted_names p is.program cert (spelled.only is.program is.spelled.spells) (subst (Accepts is.program) is.holds.0 is.holds.1)
of_script text None p (Accepted cert limits) spelled is = accepted_names p is.0 cert (spelled.only is.0 is.1.spells) is.2.0
of_script text given p (CertificateRefused why) spelled is = tt
of_script text given p (Rejected cert why) spelled is = tt
of_script text given p (Endless walk) spelled is = tt
of_script text given p NotJudged spelled is = absurd is

-- a script that is read is kept
pub keeps_script : (text : List ℕ) (given : Option (List ℕ)) (p : Program) (locations : List Location) (answer : Answer) (e : Explanation)
    → Only Spells text p → ((items : List Item) (spelled : Items text items) → locations ≡ locations_of (length text) spelled)
    → IsAnswer text given answer → KeepsLocated text p locations e → Keeps text answer e
keeps_script text given p locations (ScriptRefused why) e spelled located is kept = absurd (is.1 p spelled.spells)
keeps_script text given p locations NotJudged e spelled located is kept = absurd is
keeps_script text given p locations _ e spelled located is kept = record {
  script = p;
  is_kept = kept.is_kept;
  source = kept.source;
  spelled = spelled;
  reads = kept.reads;
  writes = kept.writes;
  positions = λ items spells. kept.positions ∙ ap (map (λ location. position_in text location.verb)) (located items spells);
}

-- nothing is kept of one that is refused
pub keeps_nothing : (text : List ℕ) (answer : Answer) (e : Explanation) → IsRefused text answer → KeepsNothing e → Keeps text answer e
keeps_nothing text (ScriptRefused why) e refused kept = kept
keeps_nothing text _ e refused kept = absurd refused

-- the explanation of a script that is read
pub explained_script : (text : List ℕ) (given : Option (List ℕ)) (denied : Denied) (p : Program) (locations : List Location) (answer : Answer) (e : Explanation)
    → Only Spells text p → ((items : List Item) (spelled : Items text items) → locations ≡ locations_of (length text) spelled)
    → IsAnswer text given answer → Explains text denied answer e → KeepsLocated text p locations e → IsExplanation text given denied e
explained_script text given denied p locations answer e spelled located is explains kept = record {
  is_text = explains.is_text;
  is_answer = subst (IsAnswer text given) (sym explains.is_answer) is;
  is_status = explains.is_status;
  locale = explains.locale;
  keeps = subst (λ (a : Answer). Keeps text a e) (sym explains.is_answer) (keeps_script text given p locations answer e spelled located is kept);
  errors = explains.errors;
  order = explains.order;
  ends = explains.ends;
}

-- and of one that is refused
pub explained_refusal : (text : List ℕ) (given : Option (List ℕ)) (denied : Denied) (answer : Answer) (e : Explanation) → IsRefused text answer
    → IsAnswer text given answer → Explains text denied answer e → KeepsNothing e → IsExplanation text given denied e
explained_refusal text given denied answer e refused is explains kept = record {
  is_text = explains.is_text;
  is_answer = subst (IsAnswer text given) (sym explains.is_answer) is;
  is_status = explains.is_status;
  locale = explains.locale;
  keeps = subst (λ (a : Answer). Keeps text a e) (sym explains.is_answer) (keeps_nothing text answer e refused kept);
  errors = explains.errors;
  order = explains.order;
  ends = explains.ends;
}
