-- The parts are told by their texts.
use Rattle.jv_base.proofs.EntryLemmas.{entry_same}
use Rattle.jv_base.proofs.laws.one_entry.Goals as goal

pub returns : goal.returns
returns c = entry_same
