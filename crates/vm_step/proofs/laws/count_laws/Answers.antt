use Rattle.std.proofs.Common.{◌+◌, length}
use Rattle.vm_step.proofs.CountLemmas.{return_count, throw_count, call_count, going_on_count}
use Rattle.vm_step.proofs.laws.count_laws.Goals as goal

pub returns : goal.returns
returns c = record {
  calls = call_count;
  returns = return_count;
  throws = throw_count;
  raises = λ class handler state. throw_count handler (length state.heap + 1) (record state { heap = _ });
  on = going_on_count;
}
