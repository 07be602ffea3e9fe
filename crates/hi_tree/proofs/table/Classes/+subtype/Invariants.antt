-- The elements of an array have one dimension less.
use Rattle.jv_base.specs.Types.{field_of}
use Rattle.hi_tree.proofs.table.Classes.+subtype.Given as goal

abbrev pub decreases-subtype : goal.decreases-subtype
decreases-subtype l = (field_of l.a.now).dimensions
