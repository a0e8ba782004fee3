use Rattle.sedck_script.proofs.Common.{◌∙◌, ◌↔◌, ℕ, List, map, sym, subst, ap, IsTrue, Program, Item, Items, sorted_names, all_accessed, command_of, IsQuiet, AreCommands, Spells, arith, if_err_from, IsScriptText, IsFirstFault}
use Rattle.sedck_script.specs.Private.Fields.{program_from}
use Rattle.sedck_commands.specs.declared.names.Access.TheVariants.{Read, Write}
use Rattle.sedck_script.proofs.UniqueScripts.{whole_one}
use Rattle.sedck_script.proofs.SpelledIsScript.{spelled_script}
use Rattle.sedck_script.proofs.ProgramLemmas.{once_among}
use Rattle.sedck_script.proofs.parsing.script.Goals as goal

spelled : {text : List ℕ} {items : List Item} {program : Program} → IsScriptText text → Items text items → AreCommands items program.commands
    → IsTrue program.quiet ↔ IsQuiet text → Spells text program
spelled {items = items} a x k q = record { allowed = a; items = items; spelled = x; commands = k; quiet = q }

pub new-requires-clause-script : goal.new-requires-clause-script
new-requires-clause-script c =
    spelled_script {text = c.args.text.now} {p = program_from c.in_ok-commands.commands.items c.is_quiet.result}
    (spelled c.requires.allowed c.requires.read.spelled c.in_ok-commands.ensures.read c.is_quiet.ensures)

pub new-requires-clause-read : goal.new-requires-clause-read
new-requires-clause-read c = c.in_ok-reads.ensures.sorted ∙ ap (λ l. sorted_names (all_accessed Read (map command_of l))) c.deref.ensures.value

pub new-requires-clause-written : goal.new-requires-clause-written
new-requires-clause-written c = c.in_ok-writes.ensures.sorted ∙ ap (λ l. sorted_names (all_accessed Write (map command_of l))) c.deref-2.ensures.value

pub returns-clause-spelled : goal.returns-clause-spelled
returns-clause-spelled c = subst (λ p. Spells c.args.text.now p) (sym c.new.ensures)
    (spelled c.requires.allowed c.requires.read.spelled c.in_ok-commands.ensures.read c.is_quiet.ensures)

pub returns-clause-only : goal.returns-clause-only
returns-clause-only c = λ other s. whole_one s
    (subst (λ p. Spells c.args.text.now p) (sym c.new.ensures)
    (spelled c.requires.allowed c.requires.read.spelled c.in_ok-commands.ensures.read c.is_quiet.ensures))

pub returns-in_err-commands-clause-first : goal.returns-in_err-commands-clause-first
returns-in_err-commands-clause-first c = if_err_from _ c.from_residual.result _ c.from_residual.ensures.1
    (λ memory. IsFirstFault.links c.requires.allowed (record {
      spelled = c.requires.read.spelled;
      nests = c.requires.read.nests;
      once = once_among c.args.progress.labels c.requires.read.labels;
      few = omega (arith, c.requires.read.few, c.requires.read.count);
    }) (c.in_err-commands.ensures.first memory c.requires.read))
