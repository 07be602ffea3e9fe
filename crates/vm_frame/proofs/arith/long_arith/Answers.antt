use Rattle.std.proofs.Common.{rules, FitsSigned}
use Rattle.std.specs.Int.{w64}
use Rattle.std.proofs.lemmas.Int.{wraps}
use Rattle.vm_frame.proofs.WrapLemmas.{wraps_quotient_64}
use Rattle.vm_frame.proofs.arith.long_arith.Goals as goal

pub returns-in-Add : goal.returns-in-Add
returns-in-Add c = search (rules, wraps)

pub returns-in-Sub : goal.returns-in-Sub
returns-in-Sub c = search (rules, wraps)

pub returns-in-Neg : goal.returns-in-Neg
returns-in-Neg c = search (rules, wraps)

pub returns-in-Div : goal.returns-in-Div
returns-in-Div c = let fits : FitsSigned w64 c.args.a = search rules in
    search (rules, wraps_quotient_64 c.args.a c.args.b fits)
