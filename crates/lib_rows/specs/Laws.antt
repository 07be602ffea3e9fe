-- The rules of the tables.
use Rattle.std.specs.Prelude.{◌≡◌, ℕ, zero, suc, false, true, Option, Some, None, IfSome}
use Rattle.std.specs.List.{list_all}
use Rattle.jv_base.specs.declared.method.MethodId.{MethodId}
use Rattle.lib_rows.specs.declared.class.Builtin.{Builtin}
use Rattle.lib_rows.specs.declared.method.LibMethod.{LibMethod}
use Rattle.lib_rows.specs.Classes.{class_name, superclass_of, superinterfaces_of, is_interface}
use Rattle.lib_rows.specs.Rows.{IsRow}

-- the superclass of the superclass and so on, so many steps up
abbrev pub superclass_of_some : Option Builtin → Option Builtin
superclass_of_some None = None
superclass_of_some (Some class) = superclass_of class

abbrev pub above : ℕ → Builtin → Option Builtin
above zero class = Some class
above (suc steps) class = superclass_of_some (above steps class)

-- no two classes have one name; a superclass is no interface, a superinterface is one; six steps up there is no class
pub record ClassRules : Type 0 where
  pub one : (a b : Builtin) → class_name a ≡ class_name b → a ≡ b
  pub superclasses : (class : Builtin) → IfSome (superclass_of class) (λ above. is_interface above ≡ false)
  pub superinterfaces : (class : Builtin) → list_all is_interface (superinterfaces_of class) ≡ true
  pub ends : (class : Builtin) → above 6 class ≡ None

-- no two rows have one class, name and descriptor
abbrev pub OneRow : Type 0
OneRow = (method : MethodId) (a b : LibMethod) → IsRow method a → IsRow method b → a ≡ b
