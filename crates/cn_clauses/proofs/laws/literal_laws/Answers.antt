use Rattle.cn_clauses.proofs.LiteralLemmas.{literal_variable, literal_parts, literal_value, opposite_variable}
use Rattle.cn_clauses.proofs.LiteralLemmas.{opposite_twice, opposite_value, value_agrees}
use Rattle.cn_clauses.proofs.SatisfactionLemmas.{clauses_agree}
use Rattle.cn_clauses.proofs.laws.literal_laws.Goals as goal

pub returns-clause-opposite_value : goal.returns-clause-opposite_value
returns-clause-opposite_value c = opposite_value

pub returns-clause-opposite_variable : goal.returns-clause-opposite_variable
returns-clause-opposite_variable c = opposite_variable

pub returns-clause-opposite_twice : goal.returns-clause-opposite_twice
returns-clause-opposite_twice c = opposite_twice

pub returns-clause-parts : goal.returns-clause-parts
returns-clause-parts c = literal_parts

pub returns-clause-variable : goal.returns-clause-variable
returns-clause-variable c = literal_variable

pub returns-clause-value : goal.returns-clause-value
returns-clause-value c = literal_value

pub returns-clause-agree : goal.returns-clause-agree
returns-clause-agree c = value_agrees

pub returns-clause-clauses_agree : goal.returns-clause-clauses_agree
returns-clause-clauses_agree c = clauses_agree
