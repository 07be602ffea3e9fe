use Rattle.vm_object.specs.Steps.{array_effect}
use Rattle.vm_object.proofs.LawLemmas.{raises_its_kinds, goes_on, kept_by_refusal, locals_kept}
use Rattle.vm_object.proofs.laws.array_laws.Goals as goal

pub returns : goal.returns
returns c = record {
  kinds = λ array setting next frame heap kind. raises_its_kinds next frame heap array setting kind;
  goes_on = λ array setting next frame heap. goes_on next frame heap (array_effect array setting frame.stack heap);
  refusals = λ array setting next frame heap.
      kept_by_refusal next frame heap (array_effect array setting frame.stack heap);
  locals = λ array setting next frame heap. locals_kept next frame heap (array_effect array setting frame.stack heap);
}
