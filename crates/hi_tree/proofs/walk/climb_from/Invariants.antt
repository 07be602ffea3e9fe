use Rattle.hi_tree.specs.Calls.Steps.{above_name, sought_of}
use Rattle.hi_tree.proofs.ClimbLemmas.{Under, size_of}
use Rattle.hi_tree.proofs.walk.climb_from.Given as goal

abbrev pub invariant-loop-walk : goal.invariant-loop-walk
invariant-loop-walk l = Under l.classes l.up (sought_of l.sought) (above_name l.class) l.walk

abbrev pub decreases-loop-walk : goal.decreases-loop-walk
decreases-loop-walk l = size_of l.classes l.up (sought_of l.sought) (above_name l.class) l.walk
