use Rattle.sa_core.proofs.SolveLemmas.{learns_added}
use Rattle.sa_core.proofs.solver.Solver.solve.Goals as goal

pub returns-in-Ok-clause-added : goal.returns-in-Ok-clause-added
returns-in-Ok-clause-added c =
    learns_added c.args.self.now.log.entries c.run.new.self.log.entries c.in-Ok.ensures.learns

pub returns-in-Err-clause-added : goal.returns-in-Err-clause-added
returns-in-Err-clause-added c =
    learns_added c.args.self.now.log.entries c.run.new.self.log.entries c.in-Err.ensures.learns
