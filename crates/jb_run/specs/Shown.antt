-- What the bits of a frame show of the machine's state, under an assignment.
use Rattle.std.specs.Prelude.{◌≡◌, ◌<◌, ℕ, ℤ, Bool, true, List, [], ◌∷◌, Some, None, slice_get, FitsSigned}
use Rattle.std.specs.Int.{w32}
use Rattle.jv_base.specs.declared.value.Value.{Value}
use Rattle.jv_base.specs.declared.value.Value.TheVariants.{Int, Ref}
use Rattle.cf_thin.specs.declared.shape.OperandType as kind
use Rattle.cf_thin.specs.declared.shape.OperandType.TheVariants as kinds
use Rattle.cf_thin.specs.declared.shape.Shape.{Shape}
use Rattle.jb_run.specs.declared.int_bits.IntBits.{IntBits}
use Rattle.jb_run.specs.declared.frame.Operand.{Operand}
use Rattle.jb_run.specs.declared.frame.Operand.TheVariants as operand
use Rattle.jb_run.specs.declared.frame.Frame.{Frame}
use Rattle.jb_run.specs.declared.machine.State.{State}
use Rattle.jb_run.specs.Locals.{local_at}
use Rattle.jb_run.specs.Gate.{bit_at, HasInt}
use Rattle.jb_run.specs.Satisfies.{IsBitBelow}

-- the bits show an int of 32 bits
pub record ShowsInt (a : ℕ → Bool) (word : IntBits) (n : ℤ) : Type 0 where
  pub bits : HasInt a word n
  pub fits : FitsSigned w32 n

-- the words show the ints
abbrev pub ShowInts : (ℕ → Bool) → List IntBits → List ℤ → Type 0
ShowInts a [] [] = Unit {0}
ShowInts a (word ∷ words) (n ∷ ints) = ShowsInt a word n × ShowInts a words ints
ShowInts a [] (n ∷ ints) = ⊥
ShowInts a (word ∷ words) [] = ⊥

-- the operand shows a value: an int, or null
abbrev pub ShowsValue : (ℕ → Bool) → Operand → Value → Type 0
ShowsValue a (operand.Int word) (Int n) = ShowsInt a word n
ShowsValue a operand.Null (Ref None) = Unit {0}
ShowsValue a shown value = ⊥

-- the operands show the values of an operand stack
abbrev pub ShowStack : (ℕ → Bool) → List Operand → List Value → Type 0
ShowStack a [] [] = Unit {0}
ShowStack a (shown ∷ operands) (value ∷ values) = ShowsValue a shown value × ShowStack a operands values
ShowStack a [] (value ∷ values) = ⊥
ShowStack a (shown ∷ operands) [] = ⊥

-- the frame shows the locals that it holds, and the stack
pub record ShowsFrame (a : ℕ → Bool) (frame : Frame) (state : State) : Type 0 where
  pub locals : (k : ℕ) (word : IntBits) → local_at frame.locals k ≡ Some word
      → (n : ℤ) × (local_at state.locals k ≡ Some (Int n)) × ShowsInt a word n
  pub stack : ShowStack a frame.stack state.stack

-- the bits of an int are of variables below a number
abbrev pub IsIntBelow : ℕ → IntBits → Type 0
IsIntBelow n word = (k : ℕ) → k < 32 → IsBitBelow n (bit_at word k)

-- the words are of variables below a number
abbrev pub AreIntsBelow : ℕ → List IntBits → Type 0
AreIntsBelow n [] = Unit {0}
AreIntsBelow n (word ∷ words) = IsIntBelow n word × AreIntsBelow n words

-- the operand is of a kind, and of variables below a number
abbrev pub IsOfKind : ℕ → kind.OperandType → Operand → Type 0
IsOfKind n kinds.Int (operand.Int word) = IsIntBelow n word
IsOfKind n kinds.Reference operand.Null = Unit {0}
IsOfKind n kind shown = ⊥

-- the operands are of these kinds, and of variables below a number
abbrev pub AreOfKinds : ℕ → List kind.OperandType → List Operand → Type 0
AreOfKinds n [] [] = Unit {0}
AreOfKinds n (kind ∷ kinds) (shown ∷ operands) = IsOfKind n kind shown × AreOfKinds n kinds operands
AreOfKinds n [] (shown ∷ operands) = ⊥
AreOfKinds n (kind ∷ kinds) [] = ⊥

-- the frame has a shape, and is of variables below a number: it holds an int in each local that the shape knows
pub record IsFrameOf (n : ℕ) (shape : Shape) (frame : Frame) : Type 0 where
  pub guard : IsBitBelow n frame.guard
  pub known : (k : ℕ) → slice_get shape.locals k ≡ Some true → (word : IntBits) × (local_at frame.locals k ≡ Some word)
  pub locals : (k : ℕ) (word : IntBits) → local_at frame.locals k ≡ Some word → IsIntBelow n word
  pub stack : AreOfKinds n shape.stack frame.stack
