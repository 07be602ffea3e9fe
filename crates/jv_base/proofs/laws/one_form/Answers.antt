-- The parts are told by their text.
use Rattle.jv_base.proofs.DescriptorLemmas.{field_alone, method_alone}
use Rattle.jv_base.proofs.laws.one_form.Goals as goal

pub returns : goal.returns
returns c = record { field = field_alone; method = method_alone }
