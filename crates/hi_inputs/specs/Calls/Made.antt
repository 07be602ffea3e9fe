-- For private functions and proofs alone: the classes of which objects can be made, among types.
use Rattle.std.specs.Prelude.{◌≡◌, ◌↔◌, ◌⊎◌, ℕ, List, Contains}
use Rattle.cf_class.specs.declared.class_file.ClassFile.{ClassFile}
use Rattle.jv_base.specs.Descriptor.{FieldType}
use Rattle.hi_tree.specs.Inputs.{class_type, IsMade}

-- objects of a class can be made
abbrev pub CanBeMade : List ClassFile → List ℕ → Type 0
CanBeMade classes name = (c : ClassFile) × IsMade classes name c

-- the class that a type is, where objects of it can be made, is taken in
abbrev pub AddsMade : List ClassFile → FieldType → List (List ℕ) → List (List ℕ) → Type 0
AddsMade classes u old new =
    (name : List ℕ) → Contains new name ↔ (Contains old name ⊎ ((u ≡ class_type name) × CanBeMade classes name))

-- the classes among types of which objects can be made
abbrev pub AreMadeAmong : List ClassFile → List FieldType → List (List ℕ) → Type 0
AreMadeAmong classes types names =
    (name : List ℕ) → Contains names name ↔ (Contains types (class_type name) × CanBeMade classes name)
