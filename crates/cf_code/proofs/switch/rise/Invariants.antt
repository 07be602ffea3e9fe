use Rattle.std.specs.Prelude.{◌<ℤ◌}
use Rattle.std.specs.List.{AllAdjacentBelow}
use Rattle.cf_code.proofs.switch.rise.Given as goal

abbrev pub invariant-loop-k : goal.invariant-loop-k
invariant-loop-k l = AllAdjacentBelow (λ a b. a.key <ℤ b.key) l.cases l.k
