-- What functions ensure that put what the entry gives.
use Rattle.std.specs.Prelude.{◌≡◌, ℕ, suc, ◌≤◌, List, ◌⊎◌}
use Rattle.cf_class.specs.declared.class_file.ClassFile.{ClassFile}
use Rattle.jv_base.specs.Descriptor.{object, FieldType, MethodType}
use Rattle.jv_base.specs.declared.method.MethodId.{MethodId}
use Rattle.lib_rows.specs.Classes.{class_name}
use Rattle.lib_rows.specs.declared.class.Builtin.TheVariants.{Object, String}
use Rattle.hi_tree.specs.Inputs.{class_type, IsMade, StandsAt}
use Rattle.bd_core.specs.declared.job.Job.{Job}
use Rattle.bd_core.specs.declared.member.Member.{Member}
use Rattle.bd_core.specs.declared.member.Member.TheVariants.{Known, Method, Made, Initialised}
use Rattle.bd_core.specs.Given.{IsOfMethod, IsDescriptorClass, HasReceiver}

-- an array by its elements
abbrev pub array_of : FieldType → FieldType
array_of t = record { dimensions = suc t.dimensions; element = t.element }

-- the entry itself, and that its class may be initialised
abbrev pub IsRootGift : MethodId → Member → Type 0
IsRootGift entry x = (x ≡ Method entry) ⊎ (x ≡ Initialised entry.class)

-- the class of a type, or of the elements of an array in the end
abbrev pub IsElementGift : FieldType → Member → Type 0
IsElementGift t x = (class : List ℕ) × (t.element ≡ object class) × (x ≡ Known class)

-- those of the types of a method, and of a descriptor
abbrev pub IsOfDesc : MethodType → Member → Type 0
IsOfDesc m x = (t : FieldType) × IsOfMethod m t × IsElementGift t x

abbrev pub IsDescribedGift : List ℕ → Member → Type 0
IsDescribedGift desc x = (class : List ℕ) × IsDescriptorClass desc class × (x ≡ Known class)

-- the receiver
abbrev pub IsReceiverGift : List ClassFile → MethodId → Member → Type 0
IsReceiverGift classes m x = HasReceiver classes m × (x ≡ Made m.class)

-- inputs can have objects of a class
abbrev pub CanHave : List ClassFile → List ℕ → Type 0
CanHave classes class = ((c : ClassFile) × IsMade classes class c)
    ⊎ ((class ≡ class_name Object) ⊎ (class ≡ class_name String))

-- the objects of a class that inputs have, and that it may be initialised
abbrev pub IsObjectGift : List ClassFile → List ℕ → Member → Type 0
IsObjectGift classes class x = CanHave classes class × ((x ≡ Made class) ⊎ (x ≡ Initialised class))

-- those of a type
abbrev pub OfInput : List ClassFile → FieldType → Member → Type 0
OfInput classes t x = (class : List ℕ) × (t ≡ class_type class) × IsObjectGift classes class x

-- what the types give that stand in inputs
abbrev pub IsInputGift : List ClassFile → Job → Member → Type 0
IsInputGift classes j x = (t : FieldType) × ((at : ℕ) × (at ≤ j.depth) × StandsAt classes j.entry j.depth at t)
    × (IsElementGift t x ⊎ OfInput classes t x)
