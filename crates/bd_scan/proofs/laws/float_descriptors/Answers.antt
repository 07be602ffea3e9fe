-- Which descriptors have a float.
use Rattle.bd_scan.proofs.DescriptorLemmas.{floats}
use Rattle.bd_scan.proofs.laws.float_descriptors.Goals as goal

pub returns : goal.returns
returns c = floats
