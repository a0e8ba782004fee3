use Rattle.sedck_commands.proofs.Common.{◌-◌, length, ◌∙◌, unread, IsOfText, TransliterationFault}
use Rattle.sedck_commands.proofs.ResultLemmas.{if_err_from, if_err_same}
use Rattle.sedck_commands.proofs.VerbLemmas.{transliterate_read}
use Rattle.sedck_commands.specs.FirstFaults as fault
use Rattle.sedck_commands.proofs.substitutions.read_transliteration.Goals as goal

pub returns-clause-read : goal.returns-clause-read
returns-clause-read c = transliterate_read c.in_ok-delimiter.ensures.read.0 c.in_ok-delimiter.ensures.read.1 c.in_ok-from.ensures.read c.in_ok-rest.ensures.read

pub returns-in_err-delimiter-clause-first : goal.returns-in_err-delimiter-clause-first
returns-in_err-delimiter-clause-first c = if_err_from _ c.from_residual.result _ c.from_residual.ensures.1
    (λ memory. let h = rw c.offset-opening.ensures at c.in_err-delimiter.ensures.first in rw h.1 (fault.TransliterationFault.undelimited h.0))

pub returns-in_err-rest-clause-first : goal.returns-in_err-rest-clause-first
returns-in_err-rest-clause-first c =
    if_err_same (λ whole f. IsOfText f → TransliterationFault (length whole) (c.args.text.at - 1) (unread c.args.text) f)
    c.from_residual-in_err-rest.result _ c.from_residual-in_err-rest.ensures.1 (c.in_ok-from.ensures.same ∙ c.in_ok-delimiter.ensures.same)
    (λ memory. fault.TransliterationFault.ends c.in_ok-delimiter.ensures.read.0 c.in_ok-delimiter.ensures.read.1 c.in_ok-from.ensures.read.first
    c.in_ok-from.ensures.read.second c.in_ok-from.ensures.read.equal c.in_err-rest.ensures.first)
