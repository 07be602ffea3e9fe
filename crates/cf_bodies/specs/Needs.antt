-- What an instruction needs of the constant pool, and of the code of an element type (JVM Specification SE 8, 4.9.1: static
-- constraints on the operands of instructions).
use Rattle.std.specs.Prelude.{◌≡◌, ℕ, ◌≤◌, List, slice_get, Some}
use Rattle.cf_pool.specs.declared.entry.PoolEntry.{PoolEntry}
use Rattle.cf_pool.specs.declared.entry.PoolEntry.TheVariants as entries
use Rattle.cf_code.specs.declared.instr.Instr.{Instr}
use Rattle.cf_code.specs.declared.instr.Instr.TheVariants as instrs
use Rattle.cf_code.specs.declared.constant.Constant.{Constant}
use Rattle.cf_code.specs.declared.constant.Constant.TheVariants.{Ldc, LdcW, Ldc2W}
use Rattle.cf_code.specs.declared.array.Array.{Array}
use Rattle.cf_code.specs.declared.array.Array.TheVariants as arrays
use Rattle.cf_code.specs.declared.field.Field.{Field}
use Rattle.cf_code.specs.declared.call.Call.{Call}
use Rattle.cf_code.specs.declared.call.Call.TheVariants.{Virtual, Special, Static, Interface, Dynamic}
use Rattle.cf_code.specs.declared.object.Object.{Object}
use Rattle.cf_code.specs.declared.object.Object.TheVariants.{New, CheckCast, InstanceOf}
use Rattle.cf_judge.specs.Indices.{HasPlainClass}
use Rattle.cf_bodies.specs.declared.need.PoolKind.{PoolKind}
use Rattle.cf_bodies.specs.declared.need.PoolKind.TheVariants as kinds
use Rattle.cf_bodies.specs.declared.need.Need.{Need}
use Rattle.cf_bodies.specs.declared.need.Need.TheVariants.{Nothing, Pooled, ElementType}

-- ldc and ldc_w; ldc2_w
abbrev pub constant_need : Constant → Need
constant_need (Ldc index) = Pooled kinds.OneWord index
constant_need (LdcW index) = Pooled kinds.OneWord index
constant_need (Ldc2W index) = Pooled kinds.TwoWords index
constant_need other = Nothing

-- newarray; anewarray and multianewarray
abbrev pub array_need : Array → Need
array_need (arrays.New code) = ElementType code
array_need (arrays.NewOf index) = Pooled kinds.Class index
array_need (arrays.NewMany index dimensions) = Pooled kinds.Class index
array_need other = Nothing

-- getstatic, putstatic, getfield, putfield
abbrev pub field_need : Field → Need
field_need field = Pooled kinds.Field field.index

-- invokevirtual; invokespecial and invokestatic; invokeinterface; invokedynamic
abbrev pub call_need : Call → Need
call_need (Virtual index) = Pooled kinds.Method index
call_need (Special index) = Pooled kinds.AnyMethod index
call_need (Static index) = Pooled kinds.AnyMethod index
call_need (Interface index count zero) = Pooled kinds.InterfaceMethod index
call_need (Dynamic index zeros) = Pooled kinds.CallSite index

-- new; checkcast and instanceof
abbrev pub object_need : Object → Need
object_need (New index) = Pooled kinds.PlainClass index
object_need (CheckCast index) = Pooled kinds.Class index
object_need (InstanceOf index) = Pooled kinds.Class index
object_need other = Nothing

-- what an instruction needs
abbrev pub need : Instr → Need
need (instrs.Constant c) = constant_need c
need (instrs.Array a) = array_need a
need (instrs.Field f) = field_need f
need (instrs.Call c) = call_need c
need (instrs.Object o) = object_need o
need other = Nothing

-- what ldc and ldc_w push: an int, a float, a string, a class, a method type, a method handle (tags 3, 4, 8, 7, 16, 15)
abbrev pub IsOneWord : PoolEntry → Type 0
IsOneWord (entries.Integer n) = Unit {0}
IsOneWord (entries.Float bits) = Unit {0}
IsOneWord (entries.Class name) = Unit {0}
IsOneWord (entries.Str text) = Unit {0}
IsOneWord (entries.MethodHandle kind index) = Unit {0}
IsOneWord (entries.MethodType desc) = Unit {0}
IsOneWord other = ⊥

-- what ldc2_w pushes (tags 5, 6)
abbrev pub IsTwoWords : PoolEntry → Type 0
IsTwoWords (entries.Long n) = Unit {0}
IsTwoWords (entries.Double bits) = Unit {0}
IsTwoWords other = ⊥

-- a reference to a field (tag 9)
abbrev pub IsFieldEntry : PoolEntry → Type 0
IsFieldEntry (entries.Field class name_and_type) = Unit {0}
IsFieldEntry other = ⊥

-- a reference to a method of a class (tag 10), and to one of an interface (tag 11)
abbrev pub IsMethodEntry : PoolEntry → Type 0
IsMethodEntry (entries.Method class name_and_type) = Unit {0}
IsMethodEntry other = ⊥

abbrev pub IsInterfaceMethodEntry : PoolEntry → Type 0
IsInterfaceMethodEntry (entries.InterfaceMethod class name_and_type) = Unit {0}
IsInterfaceMethodEntry other = ⊥

-- one of either
abbrev pub IsAnyMethodEntry : PoolEntry → Type 0
IsAnyMethodEntry (entries.Method class name_and_type) = Unit {0}
IsAnyMethodEntry (entries.InterfaceMethod class name_and_type) = Unit {0}
IsAnyMethodEntry other = ⊥

-- a call site (tag 18)
abbrev pub IsCallSite : PoolEntry → Type 0
IsCallSite (entries.InvokeDynamic bootstrap name_and_type) = Unit {0}
IsCallSite other = ⊥

-- a class or an array (tag 7)
abbrev pub IsClassEntry : PoolEntry → Type 0
IsClassEntry (entries.Class name) = Unit {0}
IsClassEntry other = ⊥

-- an entry is of a kind; whether a class is an array, its name tells, and not the entry
abbrev pub IsOfKind : PoolKind → PoolEntry → Type 0
IsOfKind kinds.OneWord entry = IsOneWord entry
IsOfKind kinds.TwoWords entry = IsTwoWords entry
IsOfKind kinds.Field entry = IsFieldEntry entry
IsOfKind kinds.Method entry = IsMethodEntry entry
IsOfKind kinds.AnyMethod entry = IsAnyMethodEntry entry
IsOfKind kinds.InterfaceMethod entry = IsInterfaceMethodEntry entry
IsOfKind kinds.CallSite entry = IsCallSite entry
IsOfKind kinds.Class entry = IsClassEntry entry
IsOfKind kinds.PlainClass entry = IsClassEntry entry

-- an entry of a kind stands at the index
abbrev pub FindsKind : List PoolEntry → PoolKind → ℕ → Type 0
FindsKind pool kind index = (entry : PoolEntry) × (slice_get pool index ≡ Some entry) × IsOfKind kind entry

-- the same, where a plain class is no array
abbrev pub HasKind : List PoolEntry → PoolKind → ℕ → Type 0
HasKind pool kinds.PlainClass index = HasPlainClass pool index
HasKind pool kind index = FindsKind pool kind index

-- there is what is needed; the element types of newarray have the codes 4 to 11 (6.5, table 6.5.newarray-A)
abbrev pub IsMet : List PoolEntry → Need → Type 0
IsMet pool Nothing = Unit {0}
IsMet pool (Pooled kind index) = HasKind pool kind index
IsMet pool (ElementType code) = (4 ≤ code) × (code ≤ 11)
