-- A class file and bytes behind it.
use Rattle.std.proofs.Common.{refl}
use Rattle.cf_structure.proofs.FileLemmas.{AreBytes-from_all}
use Rattle.cf_structure.proofs.ExtraLemmas.{before_extra, extra_behind}
use Rattle.cf_structure.proofs.laws.extra_bytes.Goals as goal

pub returns : goal.returns
returns c = λ bytes place are_bytes. let fits = AreBytes-from_all bytes are_bytes in (
  λ f. before_extra bytes fits _ refl f,
  λ s. extra_behind bytes fits place s.1.0 s.0 s.1.1,
)
