-- What stands at an index of the constant pool (JVM Specification SE 8, 4.4). Where something else stands there,
-- nothing does; in a class file that was read, each index finds what it has to (4.9.1).
use Rattle.std.specs.Prelude.{ℕ, Bool, true, false, List, Option, Some, None, slice_get}
use Rattle.jv_base.specs.declared.method.MethodId.{MethodId}
use Rattle.jv_base.specs.declared.method.FieldId.{FieldId}
use Rattle.cf_judge.specs.Forms.{name_of}
use Rattle.cf_pool.specs.declared.entry.PoolEntry.{PoolEntry}
use Rattle.cf_pool.specs.declared.entry.PoolEntry.TheVariants.{Utf8, Class, Field, Method, InterfaceMethod, NameAndType}

-- the units of a text (4.4.7)
abbrev pub units_in : Option PoolEntry → Option (List ℕ)
units_in (Some (Utf8 units)) = Some units
units_in other = None

abbrev pub units_at : List PoolEntry → ℕ → Option (List ℕ)
units_at pool index = units_in (slice_get pool index)

abbrev pub name_in : Option (List ℕ) → Option (List ℕ)
name_in (Some units) = name_of units
name_in None = None

-- the text at an index
abbrev pub name_at : List PoolEntry → ℕ → Option (List ℕ)
name_at pool index = name_in (units_at pool index)

abbrev pub class_in : List PoolEntry → Option PoolEntry → Option (List ℕ)
class_in pool (Some (Class name)) = name_at pool name
class_in pool other = None

-- the name of the class at an index (4.4.1)
abbrev pub class_at : List PoolEntry → ℕ → Option (List ℕ)
class_at pool index = class_in pool (slice_get pool index)

abbrev pub both : Option (List ℕ) → Option (List ℕ) → Option (List ℕ × List ℕ)
both (Some a) (Some b) = Some (a, b)
both a b = None

abbrev pub name_and_type_in : List PoolEntry → Option PoolEntry → Option (List ℕ × List ℕ)
name_and_type_in pool (Some (NameAndType name desc)) = both (name_at pool name) (name_at pool desc)
name_and_type_in pool other = None

-- the name and the descriptor at an index (4.4.6)
abbrev pub name_and_type_at : List PoolEntry → ℕ → Option (List ℕ × List ℕ)
name_and_type_at pool index = name_and_type_in pool (slice_get pool index)

abbrev pub member_of : Option (List ℕ) → Option (List ℕ × List ℕ) → Option MethodId
member_of (Some c) (Some p) = Some (record { class = c; name = p.0; desc = p.1 })
member_of class pair = None

-- a member by the index of its class and that of its name and type (4.4.2)
abbrev pub member_at : List PoolEntry → ℕ → ℕ → Option MethodId
member_at pool class name_and_type = member_of (class_at pool class) (name_and_type_at pool name_and_type)

abbrev pub field_of : Option MethodId → Option FieldId
field_of (Some m) = Some (record { class = m.class; name = m.name; desc = m.desc })
field_of None = None

abbrev pub field_in : List PoolEntry → Option PoolEntry → Option FieldId
field_in pool (Some (Field class name_and_type)) = field_of (member_at pool class name_and_type)
field_in pool other = None

-- the field at an index (4.4.2)
abbrev pub field_at : List PoolEntry → ℕ → Option FieldId
field_at pool index = field_in pool (slice_get pool index)

abbrev pub of_interface : Bool → Option MethodId → Option (MethodId × Bool)
of_interface is (Some m) = Some (m, is)
of_interface is None = None

abbrev pub method_in : List PoolEntry → Option PoolEntry → Option (MethodId × Bool)
method_in pool (Some (Method class name_and_type)) = of_interface false (member_at pool class name_and_type)
method_in pool (Some (InterfaceMethod class name_and_type)) = of_interface true (member_at pool class name_and_type)
method_in pool other = None

-- the method at an index, and whether it is one of an interface (4.4.2)
abbrev pub method_at : List PoolEntry → ℕ → Option (MethodId × Bool)
method_at pool index = method_in pool (slice_get pool index)
