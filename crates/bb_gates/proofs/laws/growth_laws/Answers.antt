use Rattle.bb_gates.proofs.GrowthLemmas.{extends_conservative, conservative_through, adds_through}
use Rattle.bb_gates.proofs.laws.growth_laws.Goals as goal

pub returns-clause-extends : goal.returns-clause-extends
returns-clause-extends c = extends_conservative

pub returns-clause-through : goal.returns-clause-through
returns-clause-through c = conservative_through c.extension_laws.ensures.continues_through

pub returns-clause-adds : goal.returns-clause-adds
returns-clause-adds c = adds_through
