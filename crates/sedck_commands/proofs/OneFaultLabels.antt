-- A label has one fault at most, and can't be read where it has one.
use Rattle.sedck_commands.proofs.Common.{◌≡◌, ◌≢◌, ℕ, ◌<◌, Bool, false, List, [], ◌∷◌, ◌++◌, length, Option, refl, ap, sym, ◌∙◌, subst, arith, false≢true, both_ways, is_separator, IsEmptyOr, Label, Ends, LabelText, BranchText, WrittenVerb, Known, VerbText, begins_braced_comment, ScriptFault, longest_one, IsLabelAt, DefinitionFault, LabelFault, ends_label, JumpFault, BadLabel, DuplicateLabel}
use Rattle.sedck_commands.specs.Items as w
use Rattle.sedck_commands.specs.FirstFaults as o
use Rattle.sedck_commands.proofs.UniqueParts.{ends_one}
use Rattle.sedck_commands.proofs.UniqueVerbs.{class_of, begins, differ}
use Rattle.sedck_commands.proofs.UniqueItems.{longest_along}
use Rattle.sedck_commands.proofs.LabelLemmas.{label_same, no_label_there, no_branch_end, no_branch_label, no_definition, no_end_behind_definition, no_end_behind_label}
use Rattle.sedck_commands.proofs.OneFaultEnds.{at_one, end_one, end_not}

label_at_one : {text f g r s : List ℕ} → IsLabelAt text f r → IsLabelAt text g s → (f ≡ g) × (r ≡ s)
label_at_one l m = longest_one (longest_along (longest_one l.skipped m.skipped).1 l.run) m.run

-- there is a label, and there is none
both_labels : {text name r s : List ℕ} → IsLabelAt text [] r → IsLabelAt text name s → 0 < length name → ⊥
both_labels l m some = omega (arith, some, ap length (label_at_one l m).0)

-- the byte after a label may be there, and may not
both_behind : {text f g r s : List ℕ} {b : ℕ} (test : ℕ → Bool) → IsLabelAt text f (b ∷ r) → test b ≡ false → IsLabelAt text g s → IsEmptyOr test s → ⊥
both_behind {b = b} test l h m free = both_ways (test b) h (subst (λ t. IsEmptyOr test t) (sym (label_at_one l m).1) free)

-- ---- Labels that are defined

pub definition_one : {size : ℕ} {text : List ℕ} {f g : ScriptFault} → DefinitionFault size text f → DefinitionFault size text g → f ≡ g
definition_one (o.missing l a) (o.missing m b) = ap BadLabel (at_one (label_at_one l m).1 a b)
definition_one (o.missing l a) (o.byte m some h b) = absurd (both_labels l m some)
definition_one (o.byte l some h a) (o.missing m b) = absurd (both_labels m l some)
definition_one (o.byte l some h a) (o.byte m more i b) = ap BadLabel (at_one (label_at_one l m).1 a b)

pub definition_not : {size : ℕ} {text name behind : List ℕ} {f : ScriptFault} → DefinitionFault size text f → IsLabelAt text name behind → 0 < length name
    → IsEmptyOr is_separator behind → ⊥
definition_not (o.missing l a) m some free = both_labels l m some
definition_not (o.byte l more h a) m some free = both_behind is_separator l h m free

pub label_fault_one : {size : ℕ} {IsDefined : List ℕ → Type 0} {text : List ℕ} {f g : ScriptFault} → LabelFault size IsDefined text f
    → LabelFault size IsDefined text g → f ≡ g
label_fault_one (o.definition x) (o.definition y) = definition_one x y
label_fault_one (o.definition x) (o.duplicate m some free known b) = absurd (definition_not x m some free)
label_fault_one (o.definition x) (o.ends m some free new y) = absurd (definition_not x m some free)
label_fault_one (o.duplicate m some free known b) (o.definition x) = absurd (definition_not x m some free)
label_fault_one (o.ends m some free new y) (o.definition x) = absurd (definition_not x m some free)
label_fault_one (o.duplicate l some free known a) (o.duplicate m more clear seen b) =
    let same = label_at_one l m in ap DuplicateLabel (at_one (λ i. same.0 i ++ same.1 i) a b)
label_fault_one {IsDefined = d} (o.duplicate l some free known a) (o.ends m more clear new y) = absurd (new (subst d (label_at_one l m).0 known))
label_fault_one {IsDefined = d} (o.ends m more clear new y) (o.duplicate l some free known a) = absurd (new (subst d (label_at_one l m).0 known))
label_fault_one (o.ends l some free new x) (o.ends m more clear fresh y) = end_one (rw (label_at_one l m).1 at x) y

-- a label that its verb defines is none that has been defined
abbrev pub IsFresh : (List ℕ → Type 0) → WrittenVerb → Type 0
IsFresh IsDefined verb = (name : List ℕ) → verb ≡ Known (Label name) → IsDefined name → ⊥

label_not : {size : ℕ} {IsDefined : List ℕ → Type 0} {text name behind rest : List ℕ} {f : ScriptFault} → LabelFault size IsDefined text f
    → LabelText text name behind → w.IsNoBrace behind → Ends behind rest → (IsDefined name → ⊥) → ⊥
label_not (o.definition (o.missing l a)) m n e fresh = no_label_there l refl m
label_not (o.definition (o.byte l some h a)) m n e fresh = no_definition l (λ r k i. no_end_behind_definition refl h k i) m n e
label_not {IsDefined = d} (o.duplicate l some free known a) m n e fresh = fresh (subst d (label_same l m).0 known)
label_not (o.ends l some free new x) m n e fresh = no_definition l (λ r k i. end_not x i) m n e

pub label_fault_not : {size : ℕ} {IsDefined : List ℕ → Type 0} {text rest : List ℕ} {verb : WrittenVerb} {f : ScriptFault}
    → LabelFault size IsDefined text f → VerbText (58 ∷ text) verb rest → IsFresh IsDefined verb → ⊥
label_fault_not x (w.label h l n e) fresh = label_not x l n e (fresh _ refl)
label_fault_not x y fresh = differ 58 (class_of y) refl (begins y)

-- ---- Labels of branches and tests

pub jump_fault_one : {size : ℕ} {text : List ℕ} {f g : ScriptFault} → JumpFault size text f → JumpFault size text g → f ≡ g
jump_fault_one (o.missing l n a) (o.missing m k b) = ap BadLabel (at_one (label_at_one l m).1 a b)
jump_fault_one (o.missing l n a) (o.byte m some h b) = absurd (both_labels l m some)
jump_fault_one (o.missing l n a) (o.ends m some h y) = absurd (both_labels l m some)
jump_fault_one (o.missing l n a) (o.comment m some h e c b) = absurd (both_labels l m some)
jump_fault_one (o.byte m some h b) (o.missing l n a) = absurd (both_labels l m some)
jump_fault_one (o.ends m some h y) (o.missing l n a) = absurd (both_labels l m some)
jump_fault_one (o.comment m some h e c b) (o.missing l n a) = absurd (both_labels l m some)
jump_fault_one (o.byte l some h a) (o.byte m more i b) = ap BadLabel (at_one (label_at_one l m).1 a b)
jump_fault_one (o.byte l some h a) (o.ends m more free y) = absurd (both_behind ends_label l h m free)
jump_fault_one (o.byte l some h a) (o.comment m more free e c b) = absurd (both_behind ends_label l h m free)
jump_fault_one (o.ends m more free y) (o.byte l some h a) = absurd (both_behind ends_label l h m free)
jump_fault_one (o.comment m more free e c b) (o.byte l some h a) = absurd (both_behind ends_label l h m free)
jump_fault_one (o.ends l some free x) (o.ends m more clear y) = end_one (rw (label_at_one l m).1 at x) y
jump_fault_one (o.ends l some free x) (o.comment m more clear e c b) = absurd (end_not (rw (label_at_one l m).1 at x) e)
jump_fault_one (o.comment m more clear e c b) (o.ends l some free x) = absurd (end_not (rw (label_at_one l m).1 at x) e)
jump_fault_one (o.comment l some free e c a) (o.comment m more clear k d b) = ap BadLabel (at_one (label_at_one l m).1 a b)

ends_none : (b : ℕ) → ends_label b ≡ false → (is_separator b ≡ false) × (b ≢ 125)
ends_none b h = (grind (arith, h), λ e. grind (arith, h, e))

pub jump_fault_not : {size : ℕ} {text : List ℕ} {f : ScriptFault} → JumpFault size text f → (label : Option (List ℕ)) (braced : Bool) (rest : List ℕ)
    → BranchText text label braced rest → ⊥
jump_fault_not (o.missing l n a) = no_branch_end l refl (λ h i k. n (h, i, k))
jump_fault_not (o.byte {b = b} l some h a) = let none = ends_none b h in no_branch_label l some (λ r n e. no_end_behind_label refl none.0 none.1 n e.0)
jump_fault_not (o.ends l some free x) = no_branch_label l some (λ r n e. end_not x e.0)
jump_fault_not (o.comment l some free k c a) =
    no_branch_label l some (λ r n e. false≢true (sym e.1 ∙ ap begins_braced_comment (ends_one e.0 k) ∙ c))
