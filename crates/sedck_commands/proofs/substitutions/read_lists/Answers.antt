use Rattle.sedck_commands.proofs.Common.{◌≡◌, ℕ, List, ◌∷◌, length, arith, unread, IsOfText, TransliterationFault}
use Rattle.sedck_commands.proofs.ResultLemmas.{if_err_from, if_err_same}
use Rattle.sedck_commands.specs.FirstFaults as fault
use Rattle.sedck_commands.proofs.substitutions.read_lists.Goals as goal

pub returns-in_err-from-clause-first : goal.returns-in_err-from-clause-first
returns-in_err-from-clause-first c = if_err_from _ c.from_residual.result _ c.from_residual.ensures.1
    (λ memory begins e. fault.TransliterationFault.first e c.requires.delimiter (c.in_err-from.ensures.first memory))

pub returns-in_err-to-clause-first : goal.returns-in_err-to-clause-first
returns-in_err-to-clause-first c = if_err_same
    (λ whole f. IsOfText f → (begins : List ℕ) → begins ≡ c.args.delimiter ∷ unread c.args.text → TransliterationFault (length whole) c.args.opening begins f)
    c.from_residual-in_err-to.result _ c.from_residual-in_err-to.ensures.1 c.in_ok-from.ensures.same
    (λ memory begins e. fault.TransliterationFault.second e c.requires.delimiter c.in_ok-from.ensures.read (c.in_err-to.ensures.first memory))

pub returns-then-len-clause-first : goal.returns-then-len-clause-first
returns-then-len-clause-first c = λ memory begins e.
    fault.TransliterationFault.lengths e c.requires.delimiter c.in_ok-from.ensures.read c.in_ok-to.ensures.read
    (λ same. omega (arith, c.in_ok-from.from.ok.0, c.in_ok-to.to.ok.0))
