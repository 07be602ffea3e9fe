-- A table that grows: what references mean over it, and what inputs have, stays.
use Rattle.std.specs.Prelude.{◌≡◌, ℕ, Bool, List, Some}
use Rattle.cf_class.specs.declared.class_file.ClassFile.{ClassFile}
use Rattle.jv_base.specs.Descriptor.{FieldType}
use Rattle.jv_base.specs.declared.method.MethodId.{MethodId}
use Rattle.jv_base.specs.declared.method.FieldId.{FieldId}
use Rattle.hi_tree.specs.declared.known.Up.{Up}
use Rattle.hi_tree.specs.Classes.{Known, class_in, known_class}
use Rattle.hi_tree.specs.Supers.{names_above_some}
use Rattle.hi_tree.specs.Fields.{IsField}
use Rattle.hi_tree.specs.Resolution.{IsResolved}
use Rattle.hi_tree.specs.Selection.{IsSelected}
use Rattle.hi_tree.specs.Special.{IsSpecial}
use Rattle.hi_tree.specs.Inputs.{IsMade, StandsAt}

-- each class that is known stays so
abbrev pub Grows : List ClassFile → List ClassFile → Type 0
Grows classes more = (name : List ℕ) (k : Known) → known_class classes name ≡ Some k → known_class more name ≡ Some k

-- each class file stays under its name, also one that a built-in class stands before
abbrev pub KeepsFiles : List ClassFile → List ClassFile → Type 0
KeepsFiles classes more =
    (name : List ℕ) (c : ClassFile) → class_in classes name ≡ Some c → class_in more name ≡ Some c

-- what is meant over the one table is meant over the other
pub record Keeps (classes more : List ClassFile) : Type 0 where
  pub resolved : (interface : Bool) (at m : MethodId) → IsResolved classes interface at m
      → IsResolved more interface at m
  pub field : (at f : FieldId) → IsField classes at f → IsField more at f
  pub selected : (class : List ℕ) (m s : MethodId) → IsSelected classes class m s → IsSelected more class m s
  pub special : (caller : List ℕ) (interface : Bool) (at m : MethodId) → IsSpecial classes caller interface at m
      → IsSpecial more caller interface at m
  pub made : (name : List ℕ) (c : ClassFile) → IsMade classes name c → IsMade more name c
  pub inputs : KeepsFiles classes more → (entry : MethodId) (depth at : ℕ) (t : FieldType)
      → StandsAt classes entry depth at t → StandsAt more entry depth at t
  pub above : (up : Up) (name : List ℕ) (k : Known) → known_class classes name ≡ Some k
      → names_above_some up (known_class more name) ≡ names_above_some up (known_class classes name)
