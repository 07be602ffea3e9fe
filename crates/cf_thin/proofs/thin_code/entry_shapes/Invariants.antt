use Rattle.std.proofs.Common.{◌≡◌, ◌++◌, ◌-◌, replicate, None}
use Rattle.cf_thin.proofs.thin_code.entry_shapes.Given as goal

abbrev pub invariant-loop : goal.invariant-loop
invariant-loop l = l.shapes.items ≡ l.initial.shapes.items ++ replicate (l.counter - 1) None
