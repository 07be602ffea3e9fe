-- What a walk looks for.
use Rattle.std.specs.Prelude.{ℕ, Bool, true, false, List, [], ◌∷◌, reverse, is_some, ◌||◌, ◌&&◌, nat_eq}
use Rattle.std.specs.Prelude.{if◌then◌else◌}
use Rattle.std.specs.Str.{bytes_eq}
use Rattle.jv_base.specs.declared.method.MethodId.{MethodId}
use Rattle.hi_tree.specs.declared.declared.Access.{Access}
use Rattle.hi_tree.specs.declared.declared.Access.TheVariants.{Package}
use Rattle.hi_tree.specs.Classes.{Known}
use Rattle.hi_tree.specs.Members.{declares_field}
use Rattle.hi_tree.specs.Methods.{declared, is_virtual_some}

-- a class
abbrev pub class_sought : List ℕ → List ℕ → Known → Bool
class_sought class name k = bytes_eq name class

-- a class that declares a field
abbrev pub field_sought : List ℕ → List ℕ → List ℕ → Known → Bool
field_sought field desc name k = declares_field field desc k

-- a class that declares a method
abbrev pub method_sought : List ℕ → List ℕ → List ℕ → Known → Bool
method_sought method desc name k = is_some (declared method desc k)

-- what is left of a text from its first slash on
abbrev pub from_slash : List ℕ → List ℕ
from_slash [] = []
from_slash (x ∷ xs) = if nat_eq x 47 then x ∷ xs else from_slash xs

-- the package of a class: its name up to the last slash
abbrev pub package_of : List ℕ → List ℕ
package_of name = reverse (from_slash (reverse name))

-- a method of this access can be overridden in a class: one of package access in the same package alone (5.4.5)
abbrev pub can_override : Access → List ℕ → List ℕ → Bool
can_override Package class name = bytes_eq (package_of name) (package_of class)
can_override other class name = true

-- the class of a method, or a class that declares a method which overrides it: one of the same name and descriptor
-- that is neither private nor static
abbrev pub override_sought : MethodId → Access → List ℕ → Known → Bool
override_sought method access name k =
    bytes_eq name method.class
    || is_virtual_some (declared method.name method.desc k) && can_override access method.class name

-- nothing: the whole walk
abbrev pub nothing_sought : List ℕ → Known → Bool
nothing_sought name k = false
