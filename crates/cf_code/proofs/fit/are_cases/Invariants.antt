use Rattle.std.proofs.Common.{take}
use Rattle.std.specs.List.{AllByRecursion}
use Rattle.cf_code.specs.Switches.{FitsCase}
use Rattle.cf_code.proofs.fit.are_cases.Given as goal

abbrev pub invariant-loop-case : goal.invariant-loop-case
invariant-loop-case l = AllByRecursion FitsCase (take l.case-index l.cases)
