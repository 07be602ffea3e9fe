-- The members are just those that follow.
use Rattle.bd_core.specs.Loading.{job_of, told_of}
use Rattle.bd_core.proofs.LeastLemmas.{ok_derived}
use Rattle.bd_core.proofs.loading.Core.members.Goals as goal

pub returns-clause-derived : goal.returns-clause-derived
returns-clause-derived c =
    ok_derived (job_of c.args.self.now) (told_of c.args.self.now).given c.members_of.result c.members_of.ensures
