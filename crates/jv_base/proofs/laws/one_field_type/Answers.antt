-- The values are told by their texts.
use Rattle.jv_base.proofs.TypeLemmas.{field_same}
use Rattle.jv_base.proofs.laws.one_field_type.Goals as goal

pub returns : goal.returns
returns c = field_same
