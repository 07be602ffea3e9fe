-- What holds of the definitions.
use Rattle.std.specs.Prelude.{◌≡◌, ◌≢◌, ℕ, ◌+◌, ◌<◌, ◌≤◌, pos, true, List, length, Some, None, Option}
use Rattle.jv_base.specs.declared.method.Kind.{Kind}
use Rattle.jv_base.specs.declared.value.Value.TheVariants.{Ref}
use Rattle.cf_code.specs.declared.instr.Instr.TheVariants as instrs
use Rattle.cf_code.specs.declared.array.Array.{Array}
use Rattle.cf_code.specs.declared.array.Array.TheVariants.{Load, Store, New, NewOf, NewMany, Length}
use Rattle.cf_code.specs.declared.array.Element.{Element}
use Rattle.cf_code.specs.Kinds.{raises}
use Rattle.vm_world.specs.declared.frame.Frame.{Frame}
use Rattle.vm_world.specs.declared.object.Object.{Object}
use Rattle.vm_world.specs.Heap.{object_at, element_at}
use Rattle.vm_frame.specs.Operands.{top, int_in}
use Rattle.vm_object.specs.declared.element.ElementType.{ElementType}
use Rattle.vm_object.specs.declared.operand.StoreOperands.{StoreOperands}
use Rattle.vm_object.specs.declared.effect.ArrayEffect.TheVariants.{Gives}
use Rattle.vm_object.specs.declared.effect.ArrayWent.TheVariants.{Next, Raised}
use Rattle.vm_object.specs.declared.step.Setting.{Setting}
use Rattle.vm_object.specs.ElementTypes.{default_value, element_type, narrowed, type_text}
use Rattle.vm_object.specs.Operands.{reference_and_int, store_operands}
use Rattle.vm_object.specs.Places.{element_descriptor, taken}
use Rattle.vm_object.specs.Loads.{load_effect}
use Rattle.vm_object.specs.Steps.{array_step}

-- ---- all instructions

-- a kind that is raised is one of the instruction's
abbrev pub RaisesItsKinds : Type 0
RaisesItsKinds = (array : Array) (setting : Setting) (next : ℕ) (frame : Frame) (heap : List Object) (kind : Kind)
    → (array_step array setting next frame heap).0 ≡ Raised kind → raises (instrs.Array array) kind ≡ true

-- the run goes on at the next instruction
abbrev pub GoesOn : Type 0
GoesOn = (array : Array) (setting : Setting) (next : ℕ) (frame : Frame) (heap : List Object)
    → (array_step array setting next frame heap).0 ≡ Next → (array_step array setting next frame heap).1.pc ≡ next

-- an instruction that does not go on changes nothing
abbrev pub RefusalsKeepAll : Type 0
RefusalsKeepAll = (array : Array) (setting : Setting) (next : ℕ) (frame : Frame) (heap : List Object)
    → (array_step array setting next frame heap).0 ≢ Next
    → ((array_step array setting next frame heap).1 ≡ frame) × ((array_step array setting next frame heap).2 ≡ heap)

-- no more changes of a frame than its pc and its stack
abbrev pub KeepsItsLocals : Type 0
KeepsItsLocals = (array : Array) (setting : Setting) (next : ℕ) (frame : Frame) (heap : List Object)
    → ((array_step array setting next frame heap).1.locals ≡ frame.locals)
    × ((array_step array setting next frame heap).1.method ≡ frame.method)
    × ((array_step array setting next frame heap).1.initialises ≡ frame.initialises)

-- ---- the heap

-- a load and an arraylength change no object
abbrev pub ReadsKeepHeap : Type 0
ReadsKeepHeap = (setting : Setting) (next : ℕ) (frame : Frame) (heap : List Object)
    → ((element : Element) → (array_step (Load element) setting next frame heap).2 ≡ heap)
    × ((array_step Length setting next frame heap).2 ≡ heap)

-- the descriptor of the element type that an instruction names, which makes an array
abbrev pub named : Array → Setting → Option (List ℕ)
named (Load element) setting = None
named (Store element) setting = None
named (New code) setting = type_text code
named (NewOf index) setting = setting.element
named (NewMany index dimensions) setting = None
named Length setting = None

-- a new array has the next number and the named element type, and each older object is as it was
abbrev pub NewIsNext : Type 0
NewIsNext = (array : Array) (setting : Setting) (next : ℕ) (frame : Frame) (heap : List Object) (descriptor : List ℕ)
    → named array setting ≡ Some descriptor → (array_step array setting next frame heap).0 ≡ Next
    → (top (array_step array setting next frame heap).1.stack ≡ Some (Ref (Some (length heap + 1))))
    × (element_descriptor (array_step array setting next frame heap).2 (length heap + 1) ≡ Some descriptor)
    × ((number : ℕ) → number ≢ length heap + 1
    → object_at (array_step array setting next frame heap).2 number ≡ object_at heap number)

-- it has as many elements as the int on the stack says, no more than the bound, and each has the default value of the type
abbrev pub NewIsFilled : Type 0
NewIsFilled = (array : Array) (setting : Setting) (next : ℕ) (frame : Frame) (heap : List Object) (descriptor : List ℕ)
    (held : ElementType) (n place : ℕ) → named array setting ≡ Some descriptor → element_type descriptor ≡ Some held
    → int_in (top frame.stack) ≡ Some (pos n) → (array_step array setting next frame heap).0 ≡ Next
    → (n ≤ setting.bound)
    × (place < n
    → element_at (array_step array setting next frame heap).2 (length heap + 1) place ≡ Some (default_value held))
    × (n ≤ place → element_at (array_step array setting next frame heap).2 (length heap + 1) place ≡ None)

-- a store changes no other object than the array on the stack
abbrev pub StoreKeepsOthers : Type 0
StoreKeepsOthers = (element : Element) (setting : Setting) (next : ℕ) (frame : Frame) (heap : List Object)
    (operands : StoreOperands) (other : ℕ) → store_operands frame.stack ≡ Some operands → operands.array ≢ Some other
    → object_at (array_step (Store element) setting next frame heap).2 other ≡ object_at heap other

-- nor any other element than the one at the index, nor the element type
abbrev pub StoreKeepsElements : Type 0
StoreKeepsElements = (element : Element) (setting : Setting) (next : ℕ) (frame : Frame) (heap : List Object)
    (operands : StoreOperands) (number place : ℕ) → store_operands frame.stack ≡ Some operands
    → operands.index ≢ pos place
    → (element_at (array_step (Store element) setting next frame heap).2 number place ≡ element_at heap number place)
    × (element_descriptor (array_step (Store element) setting next frame heap).2 number ≡ element_descriptor heap number)

-- what a load gives after a store at the same place is what the array keeps of the value
abbrev pub StoreIsLoaded : Type 0
StoreIsLoaded = (element : Element) (setting : Setting) (next number : ℕ) (frame after : Frame) (heap : List Object)
    (operands : StoreOperands) (held : ElementType) → store_operands frame.stack ≡ Some operands
    → operands.array ≡ Some number → taken element (element_descriptor heap number) ≡ Some held
    → reference_and_int after.stack ≡ Some (operands.array, operands.index)
    → (array_step (Store element) setting next frame heap).0 ≡ Next
    → load_effect element after.stack (array_step (Store element) setting next frame heap).2
    ≡ Gives 2 (narrowed held operands.value)
