use Rattle.cn_clauses.proofs.InputLemmas.{extends_grows, fresh_grows, grows_through}
use Rattle.cn_clauses.proofs.laws.input_laws.Goals as goal

pub returns-clause-extends : goal.returns-clause-extends
returns-clause-extends c = extends_grows

pub returns-clause-fresh : goal.returns-clause-fresh
returns-clause-fresh c = fresh_grows

pub returns-clause-through : goal.returns-clause-through
returns-clause-through c = grows_through
