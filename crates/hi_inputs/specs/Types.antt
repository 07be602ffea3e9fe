-- The types that stand in the inputs of an entry method.
use Rattle.std.specs.Prelude.{◌≡◌, ℕ, ◌≤◌, ◌↔◌, List, Some, Contains, map, slice_get}
use Rattle.cf_class.specs.declared.class_file.ClassFile.{ClassFile}
use Rattle.jv_base.specs.Descriptor.{FieldType}
use Rattle.jv_base.specs.Types.{field_of}
use Rattle.jv_base.specs.declared.method.MethodId.{MethodId}
use Rattle.jv_base.specs.declared.value.Ty.{Ty}
use Rattle.hi_tree.specs.Inputs.{StandsAt, IsInputClass}

-- a type stands in inputs at some depth of at most so many
abbrev pub StandsWithin : List ClassFile → MethodId → ℕ → ℕ → FieldType → Type 0
StandsWithin classes entry depth most t = (at : ℕ) × (at ≤ most) × StandsAt classes entry depth at t

-- exactly these stand in inputs
abbrev pub AreStanding : List ClassFile → MethodId → ℕ → List FieldType → Type 0
AreStanding classes entry depth types =
    (t : FieldType) → Contains types t ↔ StandsWithin classes entry depth depth t

abbrev pub AreInputTypes : List ClassFile → MethodId → ℕ → List Ty → Type 0
AreInputTypes classes entry depth types = AreStanding classes entry depth (map field_of types)

-- no two places have the same
abbrev pub AreOnce : {A : Type 0} → List A → Type 0
AreOnce items = (i j : ℕ) (x : _) → slice_get items i ≡ Some x → slice_get items j ≡ Some x → i ≡ j

-- exactly these classes have objects that inputs can hold
abbrev pub AreInputClasses : List ClassFile → MethodId → ℕ → List (List ℕ) → Type 0
AreInputClasses classes entry depth names =
    (name : List ℕ) → Contains names name ↔ IsInputClass classes entry depth name
