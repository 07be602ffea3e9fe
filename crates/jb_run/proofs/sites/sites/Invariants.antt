-- The goals so far are those of the instructions so far, and an instruction begins at the place, or the code ends
-- there.
use Rattle.std.proofs.Common.{◌-◌, length}
use Rattle.jb_run.proofs.SiteLemmas.{SoFar}
use Rattle.jb_run.proofs.sites.sites.Given as goal

abbrev pub invariant-instrs : goal.invariant-instrs
invariant-instrs l = SoFar l.method l.code l.goals l.pc

abbrev pub decreases-instrs : goal.decreases-instrs
decreases-instrs l = length l.code - l.pc
