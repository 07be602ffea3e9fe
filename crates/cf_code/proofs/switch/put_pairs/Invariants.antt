use Rattle.std.proofs.Common.{◌≡◌, ◌++◌, take}
use Rattle.std.specs.List.{flat_map}
use Rattle.cf_code.specs.Switches.{pair}
use Rattle.cf_code.proofs.switch.put_pairs.Given as goal

abbrev pub invariant-loop-case : goal.invariant-loop-case
invariant-loop-case l = l.out.items ≡ l.fn.out.items ++ flat_map (pair l.pc) (take l.case-index l.cases)
