-- The classes before a place are followed.
use Rattle.std.proofs.Common.{◌-◌, ◌^◌}
use Rattle.hi_inputs.proofs.UpwardLemmas.{IsClimbing}
use Rattle.hi_inputs.proofs.above.upward.Given as goal

abbrev pub invariant-places : goal.invariant-places
invariant-places l = IsClimbing l.fn.classes l.fn.up l.fn.class l.found.keys l.place

abbrev pub decreases-places : goal.decreases-places
decreases-places l = 2 ^ 64 - l.place
