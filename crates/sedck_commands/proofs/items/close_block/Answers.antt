use Rattle.sedck_commands.proofs.Common.{◌∷◌, [], item_patterns, ◌≡◌, ℕ, suc, length, map, refl, ap, ◌∙◌, length-append, arith, map_push, All-push, item_of, IsItemAt, unread_length, unread, EndFault}
use Rattle.sedck_commands.proofs.ResultLemmas.{if_err_along}
use Rattle.sedck_commands.proofs.ProgressLemmas.{front_closing, at_front}
use Rattle.sedck_commands.proofs.StateLemmas.{among_closing, patterns_closing, locations_closing, emptied_more}
use Rattle.sedck_commands.specs.declared.items.WrittenItem.TheVariants as item
use Rattle.sedck_commands.specs.FirstFaults as first
use Rattle.sedck_commands.proofs.items.close_block.Goals as goal

pub returns-clause-progress : goal.returns-clause-progress
returns-clause-progress c =
    let items = ap (map item_of) c.in_ok-push.ensures.items ∙ map_push item_of c.args.progress.now.items.items _ in
    let deep : length c.args.progress.now.open_blocks.items ≡ suc (length c.pop.new.self.items) =
    omega (arith, ap length c.in-Some.ensures.items, length-append {A = ℕ}) in
    record {
      front = rw (items, c.in_ok-push.ensures.items, locations_closing)
          (front_closing (rw deep at c.requires.progress.front) c.requires.begins refl c.in_ok-rest.ensures.read);
      labels = rw (items, among_closing) c.requires.progress.labels;
      count = rw (items, among_closing) c.requires.progress.count;
      few = c.requires.progress.few;
      label_places = rw c.in_ok-push.ensures.items (All-push (IsItemAt c.args.begins.whole.now) _ _ c.requires.progress.label_places tt);
      empty = rw (items, patterns_closing, c.in_ok-push.ensures.items)
          (emptied_more c.args.begins.whole.now (item_patterns (map item_of c.args.progress.now.items.items)) c.args.progress.now.items.items
          (item.Closing ∷ []) c.args.progress.now.empty c.requires.progress.empty);
      faults = λ fault x. c.requires.progress.faults fault
          (first.closing c.in-Some.field-0 (at_front c.requires.begins refl) c.in-Some.ensures.items c.in_ok-rest.ensures.read (rw items at x));
    }

pub returns-in_default-clause-first : goal.returns-in_default-clause-first
returns-in_default-clause-first c = λ memory. c.requires.progress.faults _
    (first.unopened (at_front c.requires.begins refl) (omega (arith, c.in_default.ensures.cases.0))
    (rw c.offset.ensures (rw c.requires.begins at (unread_length c.args.begins))))

pub returns-in_err-rest-clause-first : goal.returns-in_err-rest-clause-first
returns-in_err-rest-clause-first c = if_err_along (λ w fault. EndFault (length w) (unread c.args.behind) fault) _
    c.from_residual.result _ c.from_residual.ensures.1 c.requires.behind (λ h memory. c.requires.progress.faults _
    (first.bad_end (at_front c.requires.begins refl) (omega (arith, ap length c.in-Some.ensures.items, length-append {A = ℕ})) h)) c.in_err-rest.ensures.first
