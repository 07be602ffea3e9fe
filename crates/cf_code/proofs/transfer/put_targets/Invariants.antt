use Rattle.std.proofs.Common.{◌≡◌, ◌++◌, take, map}
use Rattle.cf_code.proofs.transfer.put_targets.Given as goal

abbrev pub invariant-loop-target : goal.invariant-loop-target
invariant-loop-target l = l.out.items ≡ l.fn.out.items ++ map (λ target. (l.placed.pc, target))
    (take l.target-index l.target-items)
