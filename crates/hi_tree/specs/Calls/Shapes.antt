-- For private functions and proofs alone: the type that a shape stands for.
use Rattle.std.specs.Prelude.{suc}
use Rattle.jv_base.specs.Descriptor.{base, object, FieldType}
use Rattle.jv_base.specs.Types.{field_of}
use Rattle.hi_tree.specs.declared.subtype.Shape.{Shape}
use Rattle.hi_tree.specs.declared.subtype.Shape.TheVariants as shapes

abbrev pub type_of : Shape → FieldType
type_of (shapes.Base letter) = record { dimensions = 0; element = base letter }
type_of (shapes.Class name) = record { dimensions = 0; element = object name.now }
type_of (shapes.Array elements) =
    record { dimensions = suc (field_of elements.now).dimensions; element = (field_of elements.now).element }
