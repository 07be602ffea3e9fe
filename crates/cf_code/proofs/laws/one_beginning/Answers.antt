use Rattle.std.proofs.Common.{arith}
use Rattle.cf_code.proofs.BeginLemmas.{one_beginning_in_reach}
use Rattle.cf_code.proofs.laws.one_beginning.Goals as goal

pub returns : goal.returns
returns c = λ bytes short code end is ends other also.
    one_beginning_in_reach bytes (omega (arith, short)) code end is ends other also
