-- What holds of the definitions.
use Rattle.std.specs.Prelude.{◌≡◌, ℕ, Bool, true, false, List, [], ◌∷◌, ◌++◌, ◌⊎◌, ◌↔◌}
use Rattle.cf_class.specs.declared.class_file.ClassFile.{ClassFile}
use Rattle.jv_base.specs.Descriptor.{FieldType}
use Rattle.jv_base.specs.declared.method.MethodId.{MethodId}
use Rattle.jv_base.specs.declared.method.FieldId.{FieldId}
use Rattle.hi_tree.specs.declared.declared.Access.TheVariants.{Private}
use Rattle.hi_tree.specs.declared.declared.Declared.{Declared}
use Rattle.hi_tree.specs.declared.fault.TreeFault.{TreeFault}
use Rattle.hi_tree.specs.declared.fault.TreeFault.TheVariants.{NoMemory}
use Rattle.hi_tree.specs.Fields.{IsField, IsFieldFault}
use Rattle.hi_tree.specs.Resolution.{holder, IsResolved, IsResolveFault}
use Rattle.hi_tree.specs.Selection.{IsDeclared, IsSelected, IsSelectFault}
use Rattle.hi_tree.specs.Special.{IsSpecial, IsSpecialFault}
use Rattle.hi_tree.specs.Growth.{Grows, KeepsFiles, Keeps}
use Rattle.hi_tree.specs.Walks.{Climb, IsAbove, IsClean, Stop, Stops, found}
use Rattle.hi_tree.specs.Subtypes.{IsSubtype}

-- a walk stops at one place at most
abbrev pub OneStop : Type 0
OneStop = (w : Climb) (name : List ℕ) (s t : Stop) → Stops w name s → Stops w name t → s ≡ t

-- a walk that is clean stops nowhere
abbrev pub CleanStopsNowhere : Type 0
CleanStopsNowhere = (w : Climb) (name : List ℕ) (s : Stop) → IsClean w name → Stops w name s → ⊥

-- what is found is sought and known, and is the class itself or above it
abbrev pub FoundIsAbove : Type 0
FoundIsAbove = (w : Climb) (name found_name : List ℕ) → Stops w name (found found_name)
    → (w.sought found_name ≡ true) × (w.known found_name ≡ true) × ((name ≡ found_name)
    ⊎ IsAbove w.supers name found_name)

-- in a clean walk each class is known and not sought, and none is above itself
abbrev pub CleanIsWhole : Type 0
CleanIsWhole = (w : Climb) (name above : List ℕ) → IsClean w name → (name ≡ above) ⊎ IsAbove w.supers name above
    → (w.known above ≡ true) × (w.sought above ≡ false) × (IsAbove w.supers above above → ⊥)

-- each type is a subtype of itself, and of the supertypes of its supertypes
abbrev pub SubtypeReflexive : Type 0
SubtypeReflexive = (classes : List ClassFile) (a : FieldType) → IsSubtype classes a a

abbrev pub SubtypeTransitive : Type 0
SubtypeTransitive = (classes : List ClassFile) (a b c : FieldType) → IsSubtype classes a b
    → IsSubtype classes b c → IsSubtype classes a c

-- a reference means one method at most
abbrev pub OneResolved : Type 0
OneResolved = (classes : List ClassFile) (interface : Bool) (at a b : MethodId) → IsResolved classes interface at a
    → IsResolved classes interface at b → a ≡ b

-- a call selects one method at most
abbrev pub OneSelected : Type 0
OneSelected = (classes : List ClassFile) (class : List ℕ) (m a b : MethodId) → IsSelected classes class m a
    → IsSelected classes class m b → a ≡ b

-- a reference means one field at most
abbrev pub OneField : Type 0
OneField = (classes : List ClassFile) (at a b : FieldId) → IsField classes at a → IsField classes at b → a ≡ b

-- an invokespecial calls one method at most
abbrev pub OneSpecial : Type 0
OneSpecial = (classes : List ClassFile) (caller : List ℕ) (interface : Bool) (at a b : MethodId)
    → IsSpecial classes caller interface at a → IsSpecial classes caller interface at b → a ≡ b

-- a method that its class declares, with a body; it is private only where it is the resolved one
pub record IsCallable (classes : List ClassFile) (m selected : MethodId) : Type 0 where
  pub method : Declared
  pub declared : IsDeclared classes selected method
  pub not_static : method.is_static ≡ false
  pub not_abstract : method.is_abstract ≡ false
  pub own : method.access ≡ Private → selected ≡ m

abbrev pub SelectedIsCallable : Type 0
SelectedIsCallable = (classes : List ClassFile) (class : List ℕ) (m selected : MethodId)
    → IsSelected classes class m selected → IsCallable classes m selected

-- in its own class a method is selected, if it has a body, and no other is
abbrev pub SelectsItself : Type 0
SelectsItself = (classes : List ClassFile) (m selected : MethodId) (d : Declared) → IsDeclared classes m d
    → d.is_static ≡ false → d.is_abstract ≡ false → holder m.class ≡ m.class
    → IsSelected classes m.class m selected ↔ (selected ≡ m)

-- a fault that stands beside something else is want of memory
abbrev pub IsMemory : TreeFault → Type 0
IsMemory fault = fault ≡ NoMemory

-- what has a target has no other fault, and what has none has one other fault at most
pub record AreFaultsOf (T : Type 0) (IsTarget : T → Type 0) (IsFault : TreeFault → Type 0) : Type 0 where
  pub none : (t : T) (f : TreeFault) → IsTarget t → IsFault f → IsMemory f
  pub one : (f g : TreeFault) → IsFault f → IsFault g → (IsMemory f → ⊥) → (IsMemory g → ⊥) → f ≡ g

abbrev pub ResolveFaults : Type 0
ResolveFaults = (classes : List ClassFile) (interface : Bool) (at : MethodId)
    → AreFaultsOf MethodId (IsResolved classes interface at) (IsResolveFault classes interface at)

abbrev pub FieldFaults : Type 0
FieldFaults = (classes : List ClassFile) (at : FieldId)
    → AreFaultsOf FieldId (IsField classes at) (IsFieldFault classes at)

abbrev pub SelectFaults : Type 0
SelectFaults = (classes : List ClassFile) (class : List ℕ) (m : MethodId)
    → AreFaultsOf MethodId (IsSelected classes class m) (IsSelectFault classes class m)

abbrev pub SpecialFaults : Type 0
SpecialFaults = (classes : List ClassFile) (caller : List ℕ) (interface : Bool) (at : MethodId)
    → AreFaultsOf MethodId (IsSpecial classes caller interface at) (IsSpecialFault classes caller interface at)

-- what is meant over a table is meant over each that it grows to
abbrev pub GrowthKeeps : Type 0
GrowthKeeps = (classes more : List ClassFile) → Grows classes more → Keeps classes more

-- a table grows with a class that is put in
abbrev pub AddedGrows : Type 0
AddedGrows = (classes : List ClassFile) (c : ClassFile)
    → Grows classes (classes ++ c ∷ []) × KeepsFiles classes (classes ++ c ∷ [])
