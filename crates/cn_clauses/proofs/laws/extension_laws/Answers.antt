use Rattle.cn_clauses.proofs.ExtensionLemmas.{continues_through, continues_keeps, extends_through, over_literals}
use Rattle.cn_clauses.proofs.ExtensionLemmas.{defined}
use Rattle.cn_clauses.proofs.laws.extension_laws.Goals as goal

pub returns-clause-continues_through : goal.returns-clause-continues_through
returns-clause-continues_through c = continues_through

pub returns-clause-continues_keeps : goal.returns-clause-continues_keeps
returns-clause-continues_keeps c = continues_keeps

pub returns-clause-through : goal.returns-clause-through
returns-clause-through c = extends_through

pub returns-clause-defined : goal.returns-clause-defined
returns-clause-defined c = defined

pub returns-clause-over : goal.returns-clause-over
returns-clause-over c = over_literals
