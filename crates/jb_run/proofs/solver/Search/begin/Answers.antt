-- The goal's literal is given its value.
use Rattle.jb_run.proofs.AssignmentLemmas.{Fixes-of}
use Rattle.jb_run.proofs.solver.Search.begin.Goals as goal

pub returns-in_ok-assign-in-None : goal.returns-in_ok-assign-in-None
returns-in_ok-assign-in-None c =
    Fixes-of c.args.self.now.values.items c.assign.new.self.values.items c.args.goal c.in-Of.lit c.in-Of.is
    (cc) c.in_ok-assign-in-None.ensures.values
