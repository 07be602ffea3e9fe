use Rattle.vm_step.proofs.HandlerLemmas.{first_found, none_catches}
use Rattle.vm_step.proofs.laws.handler_laws.Goals as goal

pub returns : goal.returns
returns c = record {
  first = λ rows pc suiting. first_found pc suiting rows;
  none = λ rows pc suiting. none_catches pc suiting rows;
}
