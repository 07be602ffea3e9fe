use Rattle.cn_clauses.proofs.ExtensionLemmas.{shows_opposite, shows_known}
use Rattle.cn_clauses.proofs.laws.value_laws.Goals as goal

pub returns-clause-opposite : goal.returns-clause-opposite
returns-clause-opposite c = shows_opposite

pub returns-clause-known : goal.returns-clause-known
returns-clause-known c = shows_known
