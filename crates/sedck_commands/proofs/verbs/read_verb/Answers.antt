use Rattle.sedck_commands.proofs.Common.{◌∷◌, refl, ap, subst, unread, IsForm, opening}
use Rattle.sedck_commands.specs.FirstFaults as fault
use Rattle.sedck_commands.proofs.ResultLemmas.{if_err_more}
use Rattle.sedck_commands.proofs.FormLemmas.{text_listed, file_listed}
use Rattle.sedck_commands.proofs.FaultLemmas3.{verb_begins, jump_listed}
use Rattle.sedck_commands.proofs.verbs.read_verb.Goals as goal

pub returns-in-Block-clause-read : goal.returns-in-Block-clause-read
returns-in-Block-clause-read c = λ b is. opening (subst (IsForm b) c.in-Block.is is)

pub returns-in-Nothing-clause-first : goal.returns-in-Nothing-clause-first
returns-in-Nothing-clause-first c = rw c.in-Nothing.is
    (if_err_more c.read_simple_verb.result (λ f ends memory b is. fault.simple refl is ends) c.read_simple_verb.ensures.first)

pub returns-in-Text-clause-first : goal.returns-in-Text-clause-first
returns-in-Text-clause-first c = rw c.in-Text.is (if_err_more c.read_text_verb.result
    (λ f none memory b is. fault.no_text refl (text_listed c.in-Text.verb is) (verb_begins c.args.text b c.requires.2) none) c.read_text_verb.ensures.first)

pub returns-in-File-clause-first : goal.returns-in-File-clause-first
returns-in-File-clause-first c = rw c.in-File.is (if_err_more c.read_file_verb.result
    (λ f none memory b is. fault.no_name refl (file_listed c.in-File.access is) (verb_begins c.args.text b c.requires.2) none) c.read_file_verb.ensures.first)

pub returns-in-Label-clause-first : goal.returns-in-Label-clause-first
returns-in-Label-clause-first c = rw c.in-Label.is (if_err_more c.read_label.result
    (λ f bad memory b is. fault.label (ap (λ x. x ∷ unread c.args.text) is) bad) c.read_label.ensures.first)

pub returns-in-Jump-clause-first : goal.returns-in-Jump-clause-first
returns-in-Jump-clause-first c = rw c.in-Jump.is (if_err_more c.read_branch.result
    (λ f bad memory b is. fault.jump refl (rw is (jump_listed c.in-Jump.tests)) bad) c.read_branch.ensures.first)

pub returns-in-Substitution-clause-first : goal.returns-in-Substitution-clause-first
returns-in-Substitution-clause-first c = rw c.in-Substitution.is (if_err_more c.read_substitution.result (λ f bad memory b is.
    fault.substitution (ap (λ x. x ∷ unread c.args.text) is) (verb_begins c.args.text b c.requires.2) (bad memory)) c.read_substitution.ensures.first)

pub returns-in-Transliteration-clause-first : goal.returns-in-Transliteration-clause-first
returns-in-Transliteration-clause-first c = rw c.in-Transliteration.is (if_err_more c.read_transliteration.result (λ f bad memory b is.
    fault.transliteration (ap (λ x. x ∷ unread c.args.text) is) (verb_begins c.args.text b c.requires.2) (bad memory)) c.read_transliteration.ensures.first)
