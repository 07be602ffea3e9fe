use Rattle.cn_clauses.proofs.PropagationLemmas.{forced_true, forced_more, rup_follows, rup_more}
use Rattle.cn_clauses.proofs.laws.propagation_laws.Goals as goal

pub returns-clause-forced : goal.returns-clause-forced
returns-clause-forced c = forced_true

pub returns-clause-more : goal.returns-clause-more
returns-clause-more c = forced_more

pub returns-clause-rup : goal.returns-clause-rup
returns-clause-rup c = rup_follows

pub returns-clause-rup_more : goal.returns-clause-rup_more
returns-clause-rup_more c = rup_more
