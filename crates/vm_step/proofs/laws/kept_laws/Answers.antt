use Rattle.vm_step.proofs.KeptLemmas.{return_kept, initialiser_kept, handler_kept, drop_kept, initialiser_ends}
use Rattle.vm_step.proofs.KeptLemmas.{call_kept, going_on_kept}
use Rattle.vm_step.proofs.laws.kept_laws.Goals as goal

pub returns : goal.returns
returns c = record {
  calls = λ method receiver desc bound state others caller are.
      call_kept state others caller are method receiver desc bound;
  returns = λ returned desc behind state others caller frame.
      return_kept behind state others caller frame returned desc;
  initialisers = λ returned desc behind state others frame are.
      initialiser_kept state others frame are returned desc behind;
  handlers = λ handler number state others frame are. handler_kept state others frame are handler number;
  on = λ pc count value state others frame are. going_on_kept state others frame are pc count value;
  drops = λ number state others frame are. drop_kept state others frame are number;
  end = λ number state others frame are. initialiser_ends state others frame are number;
}
