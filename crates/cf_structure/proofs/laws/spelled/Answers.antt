-- Reading and spelling of a file.
use Rattle.cf_structure.proofs.FileLemmas.{AreBytes-from_all, structure_spelled, spelled_structure}
use Rattle.cf_structure.proofs.laws.spelled.Goals as goal

pub returns : goal.returns
returns c = λ bytes file fits. (
  λ s. structure_spelled bytes file (AreBytes-from_all bytes fits) s,
  λ s. spelled_structure bytes file s.0 s.1,
)
