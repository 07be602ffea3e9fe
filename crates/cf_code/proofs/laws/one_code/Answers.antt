-- Instruction by instruction.
use Rattle.std.proofs.Common.{arith}
use Rattle.cf_code.proofs.CodeLemmas.{one_code_in_reach}
use Rattle.cf_code.proofs.laws.one_code.Goals as goal

pub returns : goal.returns
returns c = λ bytes code other short x y. one_code_in_reach bytes code other (omega arith) x y
