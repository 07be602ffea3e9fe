-- The types are told by their texts.
use Rattle.jv_base.proofs.TypeLemmas.{descriptor_same}
use Rattle.jv_base.proofs.laws.one_descriptor.Goals as goal

pub returns : goal.returns
returns c = descriptor_same
