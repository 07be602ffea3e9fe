use Rattle.bb_terms.proofs.BlastLemmas.{empty_table, empty_exact, exact_through, shows_some, units_blast, table_later}
use Rattle.bb_terms.proofs.BlastLemmas.{exact_later}
use Rattle.bb_terms.proofs.TableLemmas.{through_valuations, through_once}
use Rattle.bb_terms.proofs.laws.blasting_laws.Goals as goal

pub returns-clause-table : goal.returns-clause-table
returns-clause-table c = empty_table

pub returns-clause-exact : goal.returns-clause-exact
returns-clause-exact c = empty_exact

pub returns-clause-through : goal.returns-clause-through
returns-clause-through c = exact_through c.extension_laws.ensures.continues_keeps

pub returns-clause-keeps_through : goal.returns-clause-keeps_through
returns-clause-keeps_through c = through_valuations c.extension_laws.ensures.continues_through

pub returns-clause-once_through : goal.returns-clause-once_through
returns-clause-once_through c =
    through_once c.extension_laws.ensures.continues_through c.extension_laws.ensures.continues_keeps

pub returns-clause-shows : goal.returns-clause-shows
returns-clause-shows c = shows_some c.term_laws.ensures.free c.term_laws.ensures.sort

pub returns-clause-units : goal.returns-clause-units
returns-clause-units c = units_blast c.term_laws.ensures.free c.term_laws.ensures.sort

pub returns-clause-table_later : goal.returns-clause-table_later
returns-clause-table_later c = table_later c.growth_laws.ensures.sort c.growth_laws.ensures.value

pub returns-clause-exact_later : goal.returns-clause-exact_later
returns-clause-exact_later c = exact_later c.growth_laws.ensures.sort c.growth_laws.ensures.value
