use Rattle.sedck_script.proofs.Common.{◌≡◌, ◌∙◌, ℕ, List, ap, sym, refl, length, arith, subst, if_err_from, Item, Items, locations_of, AreInOrder, locations_in, Location}
use Rattle.sedck_script.proofs.Nesting.{resolves_length}
use Rattle.sedck_script.proofs.OneLocation.{locations_one}
use Rattle.sedck_script.proofs.FirstFaultIsOne.{first_fault_refuses}
use Rattle.sedck_commands.proofs.LocationLemmas.{located_count, located_order}
use Rattle.sedck_script.proofs.parsing.locate.Goals as goal

pub returns-in_err-progress-clause-refused : goal.returns-in_err-progress-clause-refused
returns-in_err-progress-clause-refused c = if_err_from _ c.from_residual.result _ c.from_residual.ensures.1
    (λ memory. first_fault_refuses c.args.text.now _ (c.in_err-progress.ensures.first memory))

pub returns-in_err-script-clause-refused : goal.returns-in_err-script-clause-refused
returns-in_err-script-clause-refused c = if_err_from _ c.from_residual-in_err-script.result _ c.from_residual-in_err-script.ensures.1
    (λ memory. first_fault_refuses c.args.text.now _ (c.in_err-script.ensures.first memory))

-- the locations are those of any reading of the text
located : {items others : List Item} {text : List ℕ} (made : List Location) (x : Items text items) → made ≡ locations_of (length text) x
    → (y : Items text others) → made ≡ locations_of (length text) y
located {text = text} made x same y = same ∙ locations_one (length text) refl x y

pub returns-clause-locations : goal.returns-clause-locations
returns-clause-locations c =
    let read = c.in_ok-progress.ensures.read in
    λ items spelled. located _ read.spelled (c.in_ok-locations.ensures.all ∙ ap locations_in c.deref.ensures.value ∙ read.located) spelled

pub returns-clause-count : goal.returns-clause-count
returns-clause-count c =
    let script = c.in_ok-script.ensures.spelled in
    let read = c.in_ok-progress.ensures.read in
    let same = located _ read.spelled (c.in_ok-locations.ensures.all ∙ ap locations_in c.deref.ensures.value ∙ read.located) script.spelled in
    ap length same ∙ located_count (length c.args.text.now) script.spelled ∙ sym (resolves_length script.commands.resolved)

pub returns-clause-order : goal.returns-clause-order
returns-clause-order c =
    let read = c.in_ok-progress.ensures.read in
    let same = c.in_ok-locations.ensures.all ∙ ap locations_in c.deref.ensures.value ∙ read.located in
    subst (AreInOrder 0 (length c.args.text.now)) (sym same) (located_order (length c.args.text.now) 0 (omega arith) (omega arith) read.spelled)
