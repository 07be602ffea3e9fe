use Rattle.std.proofs.Common.{refl}
use Rattle.cf_judge.specs.Calls.Tells.{AreKept}
use Rattle.cf_judge.proofs.attribute.judge_body.Goals as goal

pub returns-in-Skipped : goal.returns-in-Skipped
unfolding AreKept
returns-in-Skipped c = rw c.in-Skipped.is (refl, tt)
