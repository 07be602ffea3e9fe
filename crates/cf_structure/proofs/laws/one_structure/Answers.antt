-- The structure of a file, or the first fault of one.
use Rattle.cf_structure.proofs.FileLemmas.{one_file, not_both, same_fault, structure_or_fault}
use Rattle.cf_structure.proofs.laws.one_structure.Goals as goal

pub returns : goal.returns
returns c = λ bytes fits. record {
  one = structure_or_fault c.one_pool.ensures bytes fits;
  one_content = one_file c.one_pool.ensures bytes fits;
  one_fault = same_fault c.one_pool.ensures bytes fits;
  not_both = not_both c.one_pool.ensures bytes fits;
}
