-- The state in which the run of an input begins: the frame of the entry alone, with the arguments in its locals (JVM
-- Specification SE 8, 2.6.1), and the objects of the input, numbered from 1 in pre-order. What class an object has is read
-- off the descriptors of the entry and of the fields.
use Rattle.std.specs.Prelude.{◌≡◌, ◌==◌, ◌+◌, ◌-◌, ℕ, List, [], ◌∷◌, ◌++◌, Option, Some, None, length, map, take, drop, codes, false, if◌then◌else◌}
use Rattle.std.specs.List.{flat_map, zip}
use Rattle.jv_base.specs.declared.method.MethodId.{MethodId}
use Rattle.jv_base.specs.declared.method.FieldId.{FieldId}
use Rattle.jv_base.specs.declared.value.Value.{Value}
use Rattle.jv_base.specs.declared.value.Value.TheVariants.{Int, Long, Ref}
use Rattle.jv_base.specs.declared.input.Tree.{Tree}
use Rattle.jv_base.specs.declared.input.Tree.TheOpen.{Tree-F, Part-F}
use Rattle.jv_base.specs.declared.input.Tree.TheFolds.{fold-Tree}
use Rattle.jv_base.specs.declared.input.Input.{Input}
use Rattle.jv_base.specs.declared.value.Desc.{Desc}
use Rattle.jv_base.specs.Types.{method_of}
use Rattle.jv_base.specs.Descriptor.{IsMethodType, class_text, field_text, method_text}
use Rattle.vm_world.specs.declared.fields.Slot.{Slot}
use Rattle.vm_world.specs.declared.frame.Frame.{Frame}
use Rattle.vm_world.specs.declared.object.Object.{Object}
use Rattle.vm_world.specs.declared.object.Object.TheVariants.{Instance, Array, Text}
use Rattle.vm_world.specs.declared.object.TextKind.TheVariants.{Str}
use Rattle.vm_world.specs.declared.state.State.{State}
use Rattle.vm_world.specs.State.{nothing}

-- a tree in the heap: its value, and its objects in order
pub record Placed : Type 0 where
  pub value : Value
  pub objects : List Object

-- a tree that waits for the number of its first object
abbrev pub Waiting : Type 0
Waiting = ℕ → Placed

-- the descriptor of the elements of an array type, and the name of the class of an object type (4.3.2)
abbrev pub element_type : List ℕ → List ℕ
element_type desc = drop 1 desc

abbrev pub class_name : List ℕ → List ℕ
class_name desc = take (length desc - 2) (drop 1 desc)

-- a value without an object
abbrev pub plain : Value → Placed
plain value = record { value = value; objects = [] }

-- trees one after the other: the objects of each are numbered behind those of the trees before it
abbrev pub in_turn : List Waiting → ℕ → List Placed
in_turn [] next = []
in_turn (tree ∷ trees) next = tree next ∷ in_turn trees (next + length (tree next).objects)

abbrev pub values_of : List Placed → List Value
values_of trees = map (λ tree. tree.value) trees

abbrev pub objects_of : List Placed → List Object
objects_of trees = flat_map (λ tree. tree.objects) trees

-- an object, and behind it those that its parts lead to
abbrev pub with_parts : ℕ → (List Placed → Object) → List Placed → Placed
with_parts number object parts = record { value = Ref (Some number); objects = object parts ∷ objects_of parts }

-- fields with their values
abbrev pub slots_of : List FieldId → List Placed → List Slot
slots_of fields parts = map (λ pair. record { field = pair.0; value = pair.1.value }) (zip fields parts)

-- a tree by its descriptor, and a field by its own
abbrev pub Typed : Type 0
Typed = List ℕ → Waiting

abbrev pub place_tree : Tree-F Typed (FieldId × Waiting) → Typed
place_tree (Tree-F.Int n) desc next = plain (Int n)
place_tree (Tree-F.Long n) desc next = plain (Long n)
place_tree Tree-F.Null desc next = plain (Ref None)
place_tree (Tree-F.Text units) desc next = with_parts next (λ parts. Text Str units) []
place_tree (Tree-F.Array trees) desc next =
    with_parts next (λ parts. Array (element_type desc) (values_of parts))
    (in_turn (map (λ tree. tree (element_type desc)) trees) (next + 1))
place_tree (Tree-F.Object fields) desc next =
    with_parts next (λ parts. Instance (class_name desc) (slots_of (map (λ field. field.0) fields) parts))
    (in_turn (map (λ field. field.1) fields) (next + 1))

abbrev pub place_field : Part-F Typed (FieldId × Waiting) → FieldId × Waiting
place_field part = (part.field, part.value part.field.desc)

-- an argument of a type
abbrev pub argument : Tree → Typed
argument tree = fold-Tree Typed (FieldId × Waiting) place_tree place_field tree

-- the locals that a value takes: two where it is a long
abbrev pub locals_of : Value → List (Option Value)
locals_of (Int n) = Some (Int n) ∷ []
locals_of (Long n) = Some (Long n) ∷ None ∷ []
locals_of (Ref object) = Some (Ref object) ∷ []

-- the types of the arguments: of the receiver, where there is one argument more than parameters, and of the parameters
abbrev pub argument_types : MethodId → List (List ℕ) → List Tree → List (List ℕ)
argument_types entry parameters args =
    if length args == length parameters + 1 then (codes "L" ++ class_text entry.class) ∷ parameters else parameters

-- the arguments in the heap
abbrev pub arguments : MethodId → List (List ℕ) → Input → List Placed
arguments entry parameters input =
    in_turn (map (λ pair. argument pair.0 pair.1) (zip input.args (argument_types entry parameters input.args))) 1

-- the frame of the entry
abbrev pub entry_frame : MethodId → List Value → Frame
entry_frame entry values =
    record { method = entry; pc = 0; locals = flat_map locals_of values; stack = []; initialises = false }

-- the state, by the descriptors of the parameters
abbrev pub start_of : MethodId → List (List ℕ) → Input → State
start_of entry parameters input =
    let args = arguments entry parameters input in
    record nothing { frames = entry_frame entry (values_of args) ∷ []; heap = objects_of args }

-- the run of the input begins in the state
pub record IsStart (entry : MethodId) (input : Input) (state : State) : Type 0 where
  pub desc : Desc
  pub types : IsMethodType (method_of desc)
  pub text : entry.desc ≡ method_text (method_of desc)
  pub begins : state ≡ start_of entry (map field_text (method_of desc).parameters) input
