-- What holds of the definitions.
use Rattle.std.specs.Prelude.{◌≡◌, ◌≢◌, ◌+◌, ◌<◌, ◌≤◌, ◌++◌, ◌∷◌, [], ℕ, List, Some, IsSome, length, map, ◌↔◌}
use Rattle.std.specs.Option.{option_map}
use Rattle.jv_base.specs.declared.method.FieldId.{FieldId}
use Rattle.jv_base.specs.declared.method.MethodId.{MethodId}
use Rattle.jv_base.specs.declared.value.Value.{Value}
use Rattle.jv_base.specs.declared.input.Input.{Input}
use Rattle.vm_world.specs.declared.fields.Slot.{Slot}
use Rattle.vm_world.specs.declared.object.Object.{Object}
use Rattle.vm_world.specs.Fields.{value_in, with_value}
use Rattle.vm_world.specs.declared.state.State.{State}
use Rattle.vm_world.specs.Heap.{object_at, changed}
use Rattle.vm_world.specs.Start.{IsStart}

-- the numbers of the objects are those from 1 to their count
abbrev pub NumbersCount : Type 0
NumbersCount = (heap : List Object) (number : ℕ) → (0 < number) × (number ≤ length heap) ↔ IsSome (object_at heap number)

-- a new object has the next number, and the others keep theirs
abbrev pub NewIsLast : Type 0
NewIsLast = (heap : List Object) (object : Object) → object_at (heap ++ object ∷ []) (length heap + 1) ≡ Some object

abbrev pub NewKeepsOthers : Type 0
NewKeepsOthers = (heap : List Object) (object : Object) (number : ℕ) → number ≢ length heap + 1
    → object_at (heap ++ object ∷ []) number ≡ object_at heap number

-- a change of an object changes that one
abbrev pub ChangesOne : Type 0
ChangesOne = (heap : List Object) (number : ℕ) (change : Object → Object)
    → object_at (changed heap number change) number ≡ option_map change (object_at heap number)

-- and no other
abbrev pub ChangesNoOther : Type 0
ChangesNoOther = (heap : List Object) (number other : ℕ) (change : Object → Object) → other ≢ number
    → object_at (changed heap number change) other ≡ object_at heap other

-- and keeps their count
abbrev pub ChangeKeepsCount : Type 0
ChangeKeepsCount = (heap : List Object) (number : ℕ) (change : Object → Object)
    → length (changed heap number change) ≡ length heap

-- a field that was given a value has it
abbrev pub FieldIsRead : Type 0
FieldIsRead = (fields : List Slot) (field : FieldId) (value : Value) → IsSome (value_in fields field)
    → value_in (with_value fields field value) field ≡ Some value

-- each other field has the value that it had
abbrev pub OthersAreRead : Type 0
OthersAreRead = (fields : List Slot) (field other : FieldId) (value : Value) → other ≢ field
    → value_in (with_value fields field value) other ≡ value_in fields other

-- and the fields are the same
abbrev pub SameFields : Type 0
SameFields = (fields : List Slot) (field : FieldId) (value : Value)
    → map (λ slot. slot.field) (with_value fields field value) ≡ map (λ slot. slot.field) fields

-- the run of an input begins in one state at most
abbrev pub OneStart : Type 0
OneStart = (entry : MethodId) (input : Input) (one other : State) → IsStart entry input one → IsStart entry input other
    → one ≡ other
