-- What is read from descriptors.
use Rattle.ck_shapes.proofs.DescriptorLemmas.{all}
use Rattle.ck_shapes.proofs.laws.signatures.Goals as goal

pub returns : goal.returns
returns c = all
