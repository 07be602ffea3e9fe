use Rattle.std.proofs.Common.{◌≡◌, ◌++◌, take}
use Rattle.std.specs.List.{flat_map}
use Rattle.bd_scan.specs.Facts.{instr_facts}
use Rattle.bd_scan.proofs.method.put_instrs.Given as goal

abbrev pub invariant-loop-placed : goal.invariant-loop-placed
invariant-loop-placed l = l.facts ≡ l.fn.facts ++ flat_map (instr_facts l.pool) (take l.placed-index l.code)
