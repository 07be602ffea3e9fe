use Rattle.std.proofs.Common.{FitsSigned, rules}
use Rattle.std.specs.Int.{w64}
use Rattle.vm_frame.proofs.WrapLemmas.{shifted_left_64}
use Rattle.vm_frame.proofs.shift.shifted_long.Goals as goal

pub returns-in-Left : goal.returns-in-Left
returns-in-Left c = let fits : FitsSigned w64 c.args.a = search rules in
    rw c.in-Left.is (shifted_left_64 c.args.a c.args.distance fits c.requires)
