use Rattle.cf_code.specs.declared.array.Array.TheVariants.{Load, Length}
use Rattle.vm_object.specs.Loads.{load_effect}
use Rattle.vm_object.specs.Stores.{store_effect}
use Rattle.vm_object.specs.Lengths.{length_effect}
use Rattle.vm_object.proofs.EffectLemmas.{load_reads, length_reads}
use Rattle.vm_object.proofs.StoreLemmas.{store_writes}
use Rattle.vm_object.proofs.ChangeLemmas.{read_keeps, named_is_next, named_is_filled, store_keeps_others}
use Rattle.vm_object.proofs.ChangeLemmas.{store_keeps_elements, store_is_loaded}
use Rattle.vm_object.proofs.laws.change_laws.Goals as goal

pub returns-clause-reads : goal.returns-clause-reads
returns-clause-reads c =
    λ setting next frame heap. (
      λ element. read_keeps (Load element) next frame heap (load_effect element frame.stack heap)
          (load_reads element frame.stack heap),
      read_keeps Length next frame heap (length_effect frame.stack heap) (length_reads frame.stack heap),
    )

pub returns-clause-next : goal.returns-clause-next
returns-clause-next c =
    λ array setting next frame heap descriptor is went.
    named_is_next c.heap_laws.ensures.last c.heap_laws.ensures.keeps next frame heap setting descriptor array is went

pub returns-clause-filled : goal.returns-clause-filled
returns-clause-filled c =
    λ array setting next frame heap descriptor held n place.
    named_is_filled c.heap_laws.ensures.last c.heap_laws.ensures.keeps next frame heap setting descriptor held n place
    array

pub returns-clause-others : goal.returns-clause-others
returns-clause-others c =
    λ element setting next frame heap operands other read.
    store_keeps_others c.heap_laws.ensures.one c.heap_laws.ensures.no_other element next frame heap operands read
    (store_effect element setting.suits frame.stack heap) (store_writes element setting.suits frame.stack heap) other

pub returns-clause-elements : goal.returns-clause-elements
returns-clause-elements c =
    λ element setting next frame heap operands number place read.
    store_keeps_elements c.heap_laws.ensures.one c.heap_laws.ensures.no_other element next frame heap operands read
    (store_effect element setting.suits frame.stack heap) (store_writes element setting.suits frame.stack heap) number
    place

pub returns-clause-loaded : goal.returns-clause-loaded
returns-clause-loaded c =
    λ element setting next number frame after heap operands held read array type_is given.
    store_is_loaded c.heap_laws.ensures.one c.heap_laws.ensures.no_other element next frame heap operands read number
    held after.stack array type_is given (store_effect element setting.suits frame.stack heap)
    (store_writes element setting.suits frame.stack heap)
