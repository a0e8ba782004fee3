-- How the first fault of what is left is that of the whole text.
use Rattle.sedck_commands.proofs.Common.{◌≡◌, ℕ, suc, ◌<◌, ◌-◌, List, [], ◌∷◌, ◌++◌, length, take, drop, get_or, sym, subst, subst₂, arith, split_at, nil_from_length, length-drop, is_separator, Longest, Item, BeginsCommand, ScriptFault, LabelFault, VerbFault, CommandFault, ItemsFault}
use Rattle.sedck_commands.proofs.ProgressLemmas.{skipped, at_front}
use Rattle.sedck_commands.specs.FirstFaults as f

-- separators before the rest change nothing
pub faults_back : {size : ℕ} {items : List Item} {opened text separators begins : List ℕ} {fault : ScriptFault}
    → Longest is_separator text separators begins → ItemsFault size items opened begins fault → ItemsFault size items opened text fault
faults_back l (f.bad_comment m x) = f.bad_comment (skipped l m) x
faults_back l (f.unopened m none at) = f.unopened (skipped l m) none at
faults_back l (f.bad_end m some x) = f.bad_end (skipped l m) some x
faults_back l (f.bad_command m k x) = f.bad_command (skipped l m) k x
faults_back l (f.unclosed others m e) = f.unclosed others (skipped l m) e
faults_back l (f.comment m k r x) = f.comment (skipped l m) k r x
faults_back l (f.closing last m e k x) = f.closing last (skipped l m) e k x
faults_back l (f.command last m k c w n at x) = f.command last (skipped l m) k c w n at x

-- a command begins without a separator
pub begun_at : {text : List ℕ} → BeginsCommand text → Longest is_separator text [] text
begun_at {text} k = subst (λ t. Longest is_separator text [] t) (sym k.2) (at_front k.2 k.3)

-- what is last in a list
pub last_of : (xs : List ℕ) (x : ℕ) → 0 < length xs → x ≡ get_or xs (length xs - 1) 0 → xs ≡ take (length xs - 1) xs ++ x ∷ []
last_of xs x some is = subst₂ (λ y t. xs ≡ take (length xs - 1) xs ++ y ∷ t) (sym is)
    (nil_from_length (drop (suc (length xs - 1)) xs) (omega (arith, some, length-drop (suc (length xs - 1)) xs)))
    (split_at xs (length xs - 1) 0 (omega (arith, some)))

-- ---- The same labels, said otherwise

label_same : {size : ℕ} {A B : List ℕ → Type 0} {text : List ℕ} {fault : ScriptFault} → ((name : List ℕ) → A name → B name)
    → ((name : List ℕ) → B name → A name) → LabelFault size A text fault → LabelFault size B text fault
label_same there back (f.definition x) = f.definition x
label_same there back (f.duplicate l some free known at) = f.duplicate l some free (there _ known) at
label_same there back (f.ends l some free new x) = f.ends l some free (λ known. new (back _ known)) x

verb_same : {size : ℕ} {A B : List ℕ → Type 0} {text : List ℕ} {fault : ScriptFault} → ((name : List ℕ) → A name → B name)
    → ((name : List ℕ) → B name → A name) → VerbFault size A text fault → VerbFault size B text fault
verb_same there back (f.simple e s x) = f.simple e s x
verb_same there back (f.no_text e k at x) = f.no_text e k at x
verb_same there back (f.no_name e k at x) = f.no_name e k at x
verb_same there back (f.label e x) = f.label e (label_same there back x)
verb_same there back (f.jump e k x) = f.jump e k x
verb_same there back (f.substitution e at x) = f.substitution e at x
verb_same there back (f.transliteration e at x) = f.transliteration e at x

command_labels : {size depth count : ℕ} {A B : List ℕ → Type 0} {text : List ℕ} {fault : ScriptFault} → ((name : List ℕ) → A name → B name)
    → ((name : List ℕ) → B name → A name) → CommandFault size A depth count text fault → CommandFault size B depth count text fault
command_labels there back (f.addresses x) = f.addresses x
command_labels there back (f.check a m x) = f.check a m x
command_labels there back (f.verb a m g x) = f.verb a m g (verb_same there back x)
command_labels there back (f.brace a m g v h at) = f.brace a m g v h at

pub command_same : {size depth count deep more : ℕ} {A B : List ℕ → Type 0} {text : List ℕ} {fault : ScriptFault} → depth ≡ deep → count ≡ more
    → ((name : List ℕ) → A name → B name) → ((name : List ℕ) → B name → A name) → CommandFault size A depth count text fault
    → CommandFault size B deep more text fault
command_same {size = size} {B = B} {text = text} {fault = fault} d k there back x =
    subst₂ (λ d k. CommandFault size B d k text fault) d k (command_labels there back x)
