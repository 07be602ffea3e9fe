-- Each half of a split has one variable less without a value.
use Rattle.std.proofs.Common.{◌+◌, ◌*◌}
use Rattle.jb_run.specs.Solved.{unset_count}
use Rattle.jb_run.proofs.solver.Search.+split.Given as goal

abbrev pub decreases-extends : goal.decreases-extends
decreases-extends l = 2 * unset_count l.self.now.values.items + 1

abbrev pub decreases-extends_by : goal.decreases-extends_by
decreases-extends_by l = 2 * unset_count l.self.now.values.items
