use Rattle.vm_frame.proofs.StoreLemmas.{store_is_read, second_is_nothing, half_a_long_ends, others_are_kept}
use Rattle.vm_frame.proofs.laws.local_laws.Goals as goal

pub returns : goal.returns
returns c = record {
  read = store_is_read;
  second = second_is_nothing;
  half = half_a_long_ends;
  others = others_are_kept;
}
