use Rattle.sedck_commands.proofs.Common.{◌≡◌, Opening, ◌-◌, ◌<◌, ◌≤◌, ◌∷◌, [], map, ap, ◌∙◌, subst, length-append, arith, map_push, All-push, Written, address_of, written_verb, item_of, commands_among, IsItemAt, NotesLabel, is_braced, unread_length, length, MayBeBraced}
use Rattle.sedck_commands.proofs.ResultLemmas.{if_err_from}
use Rattle.sedck_commands.proofs.ProgressLemmas.{front_command, command_shorter, behind_begins}
use Rattle.sedck_commands.proofs.StateLemmas.{among_append, patterns_push, locations_push, labels_noted, fresh_name, none_some, blocks_noted, emptied_push}
use Rattle.sedck_commands.specs.FirstFaults as first
use Rattle.sedck_commands.proofs.ItemFaults.{begun_at, command_same}
use Rattle.sedck_commands.proofs.items.add_command.Goals as goal

pub overflow_sub-last : goal.overflow_sub-last
overflow_sub-last c = omega (arith, behind_begins c.args.begins c.in_ok-command.rest c.in_ok-command.ensures.same c.in_ok-command.ensures.read.0)

pub returns-clause-shorter : goal.returns-clause-shorter
returns-clause-shorter c = command_shorter c.in_ok-command.ensures.read.0

pub returns-clause-progress : goal.returns-clause-progress
returns-clause-progress c =
    let old = c.args.progress.now in
    let command = c.in_ok-command.command in
    let (read, here) = c.in_ok-command.ensures.read in
    let items = ap (map item_of) c.in_ok-note_command.ensures.items ∙ map_push item_of old.items.items _ in
    let shallow = λ (e : written_verb command.verb ≡ Opening). subst (λ d. d < 64) (omega (arith, c.len.ensures)) (c.in_ok-command.ensures.shallow e) in
    let braced = subst (λ d. MayBeBraced (is_braced (written_verb command.verb)) d) (omega (arith, c.len.ensures)) c.in_ok-command.ensures.braced in
    let deeper = blocks_noted (written_verb command.verb) old.open_blocks.items c.note_command.new.progress.open_blocks.items _
    c.in_ok-note_command.ensures.opened shallow braced in
    let size = length-append (commands_among (map item_of old.items.items))
    (Written (address_of command.address) command.negated (written_verb command.verb) ∷ []) in
    record {
      front = rw (items, c.in_ok-note_command.ensures.items, locations_push)
          (front_command c.requires.progress.front c.requires.begins read here deeper);
      labels = rw (items, among_append) (labels_noted old.labels c.note_command.new.progress.labels (commands_among (map item_of old.items.items))
          (address_of command.address) command.negated command.verb c.requires.progress.labels c.in_ok-command.ensures.fresh read.taken
          (subst (λ k. NotesLabel old.labels c.note_command.new.progress.labels k command.verb) c.requires.progress.count c.in_ok-note_command.ensures.labels));
      count = rw (items, among_append) (omega (arith, c.requires.progress.count, c.in_ok-note_command.ensures.count, size));
      few = omega (arith, c.in_ok-command.ensures.few, c.in_ok-note_command.ensures.count);
      label_places = rw c.in_ok-note_command.ensures.items
          (All-push (IsItemAt c.args.begins.whole.now) _ _ c.requires.progress.label_places c.in_ok-command.ensures.jump);
      empty = rw (items, patterns_push, c.in_ok-note_command.ensures.items, c.in_ok-note_command.ensures.empty)
          (emptied_push c.args.begins.whole.now old.items.items command _ old.empty c.in_ok-command.empty
          c.requires.progress.empty c.in_ok-command.ensures.empty);
      faults = λ fault x. c.requires.progress.faults fault (first.command (c.offset-last.result - 1) (begun_at c.requires.begins) c.requires.begins
          read (record {
            fresh = λ name e d. none_some (fresh_name old.labels command.verb c.in_ok-command.ensures.fresh name e)
                (c.requires.progress.labels.found name d.0 d.1);
            shallow = shallow;
            braced = λ tests label e. subst (λ d. d ≤ 1) (omega (arith, c.len.ensures)) (c.in_ok-command.ensures.braced (ap is_braced e));
            few = omega (arith, c.in_ok-command.ensures.few, c.requires.progress.count);
          }) c.in_ok-note_command.ensures.opened
          (omega (
            arith,
            c.offset-last.ensures,
            unread_length c.in_ok-command.rest,
            ap (λ w. length w.now) c.in_ok-command.ensures.same,
            behind_begins c.args.begins c.in_ok-command.rest c.in_ok-command.ensures.same read,
          )) (rw items at x));
    }

pub returns-in_err-command-clause-first : goal.returns-in_err-command-clause-first
returns-in_err-command-clause-first c =
    let labels = c.requires.progress.labels in
    if_err_from _ c.from_residual.result _ c.from_residual.ensures.1
    (λ memory. c.requires.progress.faults _ (first.bad_command (begun_at c.requires.begins) c.requires.begins
    (command_same {B = first.Defines (map item_of c.args.progress.now.items.items)} (omega (arith, c.len.ensures)) c.requires.progress.count
    (λ name x. (x.0, labels.at name x.0 x.1)) (λ name x. (x.0, labels.found name x.0 x.1)) (c.in_err-command.ensures.first memory))))
