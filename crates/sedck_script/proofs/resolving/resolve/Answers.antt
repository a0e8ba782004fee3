use Rattle.sedck_script.proofs.Common.{◌∙◌, ◌∷◌, ◌++◌, [], map, ap, arith, map_push, command_of, item_of}
use Rattle.indexmap.proofs.ReorderLemmas.{map-reverse}
use Rattle.sedck_script.proofs.ResolvingLemmas.{back_start, back_command, back_closing, back_done, reverse_push, reverse_map_push, known_front, known_last, none_left, made_length}
use Rattle.sedck_script.proofs.resolving.resolve.Goals as goal

pub loop-item-init : goal.loop-item-init
loop-item-init c = record {
  back = rw (c.new-commands.ensures.items, c.new-targets.ensures.items)
      (back_start c.args.labels.now c.args.end (map item_of c.args.items.items) c.requires.end);
  known = c.requires.known;
}

pub loop-item-preserved-in-Continue-1 : goal.loop-item-preserved-in-Continue-1
loop-item-preserved-in-Continue-1 c =
    let popped = c.in-Some.ensures.items ∙ ap (λ x. c.pop.new.self.items ++ x ∷ []) c.in-Closing.is in
    let left = ap (map item_of) popped ∙ map_push item_of c.pop.new.self.items _ in
    record {
      back = rw (c.in_ok-push-in-Closing.ensures.items, reverse_push) (back_closing (map item_of c.pop.new.self.items) _
          (omega (arith, c.len.ensures, c.loop-item.commands.ok.0, made_length command_of c.loop-item.commands.items, c.loop-item.invariant.back.count))
          (rw left at c.loop-item.invariant.back));
      known = known_front c.args.labels.now _ _ (rw c.in-Some.ensures.items at c.loop-item.invariant.known);
    }

pub loop-item-preserved : goal.loop-item-preserved
loop-item-preserved c =
    let popped = c.in-Some.ensures.items ∙ ap (λ x. c.pop.new.self.items ++ x ∷ []) c.in-Command.is in
    let left = ap (map item_of) popped ∙ map_push item_of c.pop.new.self.items _ in
    let back = rw left at c.loop-item.invariant.back in
    let known = rw popped at c.loop-item.invariant.known in
    record {
      back = rw (c.in_ok-push-in-Command.ensures.items, reverse_map_push, c.command_of.ensures)
          (back_command c.loop-item.targets.items (map item_of c.pop.new.self.items) _ _ _ _ _ c.requires.nests
          (known_last c.args.labels.now c.pop.new.self.items _ known) c.block_target-block.ensures back);
      known = known_front c.args.labels.now _ _ known;
    }

pub returns-clause-resolved : goal.returns-clause-resolved
returns-clause-resolved c = rw (c.reverse.ensures.items, map-reverse) (back_done c.requires.labels c.requires.nests c.requires.end
    (rw (none_left item_of c.loop-item.items.items (omega (arith, c.in_default.ensures.cases.0, c.loop-item.items.ok.0))) at c.loop-item.invariant.back))
