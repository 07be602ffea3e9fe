-- Which field a reference means (JVM Specification SE 8, 5.4.3.2): the class, then each superinterface in order,
-- then the
-- superclass, each by the same rule; the first that declares it.
use Rattle.std.specs.Prelude.{◌≡◌, List}
use Rattle.cf_class.specs.declared.class_file.ClassFile.{ClassFile}
use Rattle.jv_base.specs.declared.method.FieldId.{FieldId}
use Rattle.hi_tree.specs.declared.fault.TreeFault.{TreeFault}
use Rattle.hi_tree.specs.declared.fault.TreeFault.TheVariants as faults
use Rattle.hi_tree.specs.declared.known.Up.TheVariants.{Supertypes}
use Rattle.hi_tree.specs.Supers.{climb}
use Rattle.hi_tree.specs.Sought.{field_sought}
use Rattle.hi_tree.specs.Faults.{IsWalkFault}
use Rattle.hi_tree.specs.Walks.{Climb, IsClean, Stops, found}

-- the walk that looks for a field
abbrev pub field_climb : List ClassFile → FieldId → Climb
field_climb classes at = climb classes Supertypes (field_sought at.name at.desc)

-- the field that a reference means
pub record IsField (classes : List ClassFile) (at field : FieldId) : Type 0 where
  pub name : field.name ≡ at.name
  pub desc : field.desc ≡ at.desc
  pub first : Stops (field_climb classes at) at.class (found field.class)

-- why it means none: no class of the whole walk declares it, or the walk stops before
abbrev pub IsFieldFault : List ClassFile → FieldId → TreeFault → Type 0
IsFieldFault classes at faults.NoSuch = IsClean (field_climb classes at) at.class
IsFieldFault classes at other = IsWalkFault (field_climb classes at) at.class other
