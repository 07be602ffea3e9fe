-- What is left of the trail gives the values that are to come.
use Rattle.std.proofs.Common.{◌≡◌, take, drop, vec_len}
use Rattle.jb_run.specs.Solved.{cleared}
use Rattle.jb_run.proofs.solver.Search.undo.Given as goal

abbrev pub invariant-loop-self : goal.invariant-loop-self
invariant-loop-self l = record {
  values : cleared (drop l.length l.self.trail.items) l.self.values.items ≡ cleared
      (drop l.length l.fn.self.trail.items) l.fn.self.values.items;
  trail : take l.length l.self.trail.items ≡ take l.length l.fn.self.trail.items;
}

abbrev pub decreases-loop-self : goal.decreases-loop-self
decreases-loop-self l = vec_len l.self.trail
