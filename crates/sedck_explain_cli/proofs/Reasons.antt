-- Why a script's files aren't read.
use Rattle.sedck_explain_cli.proofs.Common.{List, ℕ, Option, Result, Ok, Err, Known, RunFault}
use Rattle.std.proofs.Common.{IfErr}
use Rattle.sedck_engines.specs.declared.answer.Input.TheVariants as input
use Rattle.sedck_engines.specs.declared.answer.RunFault.TheVariants as fault
use Rattle.sedck_explain_cli.specs.Explained.{IsReasonOf}

-- what may be why the script isn't read, from another such cause
pub reason_of : {T : Type 0} (k : Known) (certificate : Option (List ℕ)) (One Other : Type 0) (r : Result T RunFault) → (One → Other)
    → IfErr r (IsReasonOf k certificate One) → IfErr r (IsReasonOf k certificate Other)
reason_of k certificate One Other (Ok x) follows is = tt
reason_of k certificate One Other (Err (fault.Read input.Script)) follows is = follows is
reason_of k certificate One Other (Err (fault.Read input.Certificate)) follows is = is
reason_of k certificate One Other (Err fault.OutOfMemory) follows is = tt
reason_of k certificate One Other (Err fault.Write) follows is = absurd is
reason_of k certificate One Other (Err (fault.Script why)) follows is = absurd is
reason_of k certificate One Other (Err (fault.Certificate why)) follows is = absurd is
