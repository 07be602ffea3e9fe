use Rattle.std.proofs.Common.{sym, add-zero}
use Rattle.cf_judge.specs.Calls.Tells.{AreKept}
use Rattle.cf_judge.proofs.entry.judge_indices.Goals as goal

pub returns-in-None : goal.returns-in-None
unfolding AreKept
returns-in-None c = rw c.in-None.is (sym (add-zero c.args.place), tt)
