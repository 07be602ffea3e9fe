-- The elements of an array have one dimension less.
use Rattle.jv_base.specs.Types.{field_of}
use Rattle.bd_core.proofs.entry.+element_class.Given as goal

abbrev pub decreases-element_class : goal.decreases-element_class
decreases-element_class l = (field_of l.ty.now).dimensions
