-- An expression is misjudged for one cause, so that a text has one first fault at most.
use Rattle.sedck_commands.proofs.Common.{◌≡◌, ℕ, List, subst, Item, ScriptFault, Tree, ReFault, one_tree, ItemsFault}
use Rattle.sedck_expressions.specs.Misjudged.{IsMisjudgedAt, IsFirstMisjudged}
use Rattle.sedck_expressions.specs.declared.fault.ReFault.TheVariants.{BadReference, NothingToRepeat}
use Rattle.sedck_expressions.proofs.FirstSought.{one_first_sought}
use Rattle.sedck_commands.proofs.OneFaultParts.{OneCause}
use Rattle.sedck_commands.proofs.OneFaultItems.{faults_are_one}

first_misjudged : (text : List ℕ) (t : Tree) (cause : ReFault) → IsMisjudgedAt text t cause → IsFirstMisjudged text t cause
first_misjudged text t (BadReference offset) h = h.3
first_misjudged text t (NothingToRepeat offset) h = h.2
first_misjudged text t cause h = absurd h

pub one_cause : OneCause
one_cause text cause other x y =
    let same = one_tree text y.tree x.tree y.spelled x.spelled in
    one_first_sought _ _ x.tree text 0 cause other (first_misjudged text x.tree cause x.placed)
    (first_misjudged text x.tree other (subst (λ t. IsMisjudgedAt text t other) same y.placed))

pub one_first_fault : {size : ℕ} {items : List Item} {opened text : List ℕ} {f g : ScriptFault} → ItemsFault size items opened text f
    → ItemsFault size items opened text g → f ≡ g
one_first_fault = faults_are_one one_cause
