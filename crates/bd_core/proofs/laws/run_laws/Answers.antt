-- By the events, one after the other.
use Rattle.bd_core.proofs.RunLemmas.{holder_after, held_not_given}
use Rattle.bd_core.proofs.laws.run_laws.Goals as goal

pub returns-clause-after : goal.returns-clause-after
returns-clause-after c = holder_after

pub returns-clause-held : goal.returns-clause-held
returns-clause-held c = held_not_given
