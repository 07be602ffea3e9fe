-- The locals so far hold the ints so far.
use Rattle.std.proofs.Common.{◌≡◌, ℤ, map, take, Some}
use Rattle.jv_base.specs.declared.value.Value.TheVariants.{Int}
use Rattle.jb_run.proofs.machine.start.Given as goal

abbrev pub invariant-loop-n : goal.invariant-loop-n
invariant-loop-n l = l.locals.items ≡ map (λ (n : ℤ). Some (Int n)) (take l.n-index l.ints)
