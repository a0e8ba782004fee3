use Rattle.sedck_explanation.proofs.Common.{◌≡◌, List, length, Item, Items, locations_of, if_some_at, Spells, Only, KeepsNothing, IsExplanation, Explains, KeepsLocated}
use Rattle.sedck_script.specs.declared.parsing.Located.{Located}
use Rattle.sedck_explanation.proofs.Explanations.{on_both, of_script, explained_script, explained_refusal}
use Rattle.sedck_explanation.proofs.explaining.explained_with.Goals as goal

pub explained-requires-clause-script : goal.explained-requires-clause-script
explained-requires-clause-script c =
    of_script c.args.asked.text.now _ c.in-Some.located.script c.in_ok-answer.field-0.answer
    (if_some_at (λ (located : Located). Only Spells c.args.asked.text.now located.script) c.in-Some.is c.in_ok-answer.ensures.script)
    c.in_ok-answer.ensures.answer

pub returns-in-Some-clause-explanation : goal.returns-in-Some-clause-explanation
returns-in-Some-clause-explanation c =
    let text = c.args.asked.text.now in
    let answer = c.in_ok-answer.field-0.answer in
    let script = c.in-Some.located.script in
    let locations = c.in-Some.located.locations.items in
    let spelled : Only Spells text script =
    if_some_at (λ (located : Located). Only Spells text located.script) c.in-Some.is c.in_ok-answer.ensures.script in
    let located : (items : List Item) (spells : Items text items) → locations ≡ locations_of (length text) spells =
    if_some_at (λ (located : Located). (items : List Item) (spells : Items text items) → located.locations.items ≡ locations_of (length text) spells)
    c.in-Some.is c.in_ok-answer.ensures.locations in
    on_both (Explains text c.args.asked.denied answer) (KeepsLocated text script locations) (IsExplanation text _ c.args.asked.denied) c.explained.result
    (λ e explains kept. explained_script text _ c.args.asked.denied script locations answer e spelled located c.in_ok-answer.ensures.answer explains kept)
    c.explained.ensures.explains c.explained.ensures.keeps

pub returns-in-None-clause-explanation : goal.returns-in-None-clause-explanation
returns-in-None-clause-explanation c =
    let text = c.args.asked.text.now in
    let answer = c.in_ok-answer.field-0.answer in
    on_both (Explains text c.args.asked.denied answer) KeepsNothing (IsExplanation text _ c.args.asked.denied) c.refused.result
    (λ e explains kept. explained_refusal text _ c.args.asked.denied answer e (c.in_ok-answer.ensures.refused c.in-None.is) c.in_ok-answer.ensures.answer explains kept)
    c.refused.ensures.explains c.refused.ensures.keeps
