-- What the texts of classes and arrays name.
use Rattle.bd_scan.proofs.DescriptorLemmas.{named}
use Rattle.bd_scan.proofs.laws.class_names.Goals as goal

pub returns : goal.returns
returns c = named
