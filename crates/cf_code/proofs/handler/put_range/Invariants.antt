use Rattle.std.proofs.Common.{◌≡◌, ◌++◌, take, map}
use Rattle.cf_code.proofs.handler.put_range.Given as goal

abbrev pub invariant-loop-start : goal.invariant-loop-start
invariant-loop-start l = l.out.items ≡ l.fn.out.items ++ map (λ start. (start, l.handler)) (take l.start-index l.range)
