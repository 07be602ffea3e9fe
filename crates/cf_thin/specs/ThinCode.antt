-- Which bytes are thin code, as the JVM Specification SE 8 says it: the static constraints of 4.9.1, and the shapes of
-- the frame that 4.10 wants at each instruction.
use Rattle.std.specs.Prelude.{◌≡◌, ◌-◌, ◌<◌, ◌≤◌, ◌⊎◌, ℕ, Bool, true, false, List, [], ◌∷◌, ◌++◌, length, replicate}
use Rattle.std.specs.Prelude.{slice_get, slice_set, Option, Some}
use Rattle.cf_thin.specs.declared.instr.ThinInstr.{ThinInstr}
use Rattle.cf_thin.specs.declared.instr.ThinInstr.TheVariants.{AconstNull, Iconst, Iload, Istore, Ixor, Ifeq, Ifne}
use Rattle.cf_thin.specs.declared.instr.ThinInstr.TheVariants.{IfIcmpeq, IfIcmpne, Goto, Ireturn, Return, Athrow}
use Rattle.cf_thin.specs.declared.shape.OperandType.{OperandType}
use Rattle.cf_thin.specs.declared.shape.OperandType.TheVariants.{Int, Reference}
use Rattle.cf_thin.specs.declared.shape.Shape.{Shape}
use Rattle.cf_thin.specs.declared.shape.Limits.{Limits}
use Rattle.cf_thin.specs.Instr.{Places, target_of, instr_at}

-- an instruction begins at this pc: the first at 0, and each other where the instruction before it ends (4.9.1)
pub data IsStart (code : Places) : ℕ → Type 0 where
  First : IsStart code 0
  Next : (pc next : ℕ) (instr : ThinInstr) → IsStart code pc → instr_at code pc ≡ Some (instr, next)
      → next < length code → IsStart code next

-- the instruction may be followed by the one behind it
abbrev pub falls_through : ThinInstr → Bool
falls_through (Goto target) = false
falls_through Ireturn = false
falls_through Return = false
falls_through Athrow = false
falls_through instr = true

-- the bytes are instructions, each as a whole, and each jump goes to one of them (4.9.1)
pub record HasInstrs (code : Places) : Type 0 where
  pub filled : 0 < length code
  pub whole : (pc : ℕ) → IsStart code pc → (instr : ThinInstr) × (next : ℕ) × (instr_at code pc ≡ Some (instr, next))
  pub aimed : (pc next target : ℕ) (instr : ThinInstr) → IsStart code pc → instr_at code pc ≡ Some (instr, next)
      → target_of instr ≡ Some target → IsStart code target

-- what an instruction takes off the operand stack, the top last (6.5, "Operand Stack")
abbrev pub takes : ThinInstr → List OperandType
takes AconstNull = []
takes (Iconst value) = []
takes (Iload index) = []
takes (Istore index) = Int ∷ []
takes Ixor = Int ∷ Int ∷ []
takes (Ifeq target) = Int ∷ []
takes (Ifne target) = Int ∷ []
takes (IfIcmpeq target) = Int ∷ Int ∷ []
takes (IfIcmpne target) = Int ∷ Int ∷ []
takes (Goto target) = []
takes Ireturn = Int ∷ []
takes Return = []
takes Athrow = Reference ∷ []

-- what an instruction leaves on the operand stack (6.5, "Operand Stack")
abbrev pub leaves : ThinInstr → List OperandType
leaves AconstNull = Reference ∷ []
leaves (Iconst value) = Int ∷ []
leaves (Iload index) = Int ∷ []
leaves Ixor = Int ∷ []
leaves instr = []

-- what an instruction does to the stack, of which the rest stays
abbrev pub StackSteps : ThinInstr → List OperandType → List OperandType → Type 0
StackSteps instr old new = (rest : List OperandType) × (old ≡ rest ++ takes instr) × (new ≡ rest ++ leaves instr)

-- what an instruction does to the locals: it loads an int that is there, and an int is in what it stores to
abbrev pub LocalsStep : ThinInstr → List Bool → List Bool → Type 0
LocalsStep (Iload index) old new = (slice_get old index ≡ Some true) × (new ≡ old)
LocalsStep (Istore index) old new = (index < length old) × (new ≡ slice_set old index true)
LocalsStep instr old new = new ≡ old

-- a method that gives an int returns by ireturn, and one that gives nothing by return (4.9.2)
abbrev pub MayStand : ThinInstr → Bool → Type 0
MayStand Ireturn gives_int = gives_int ≡ true
MayStand Return gives_int = gives_int ≡ false
MayStand instr gives_int = Unit {0}

-- an instruction finds what it needs in the shape `old`, and leaves the shape `new` (4.10.1.9)
pub record Steps (limits : Limits) (instr : ThinInstr) (old new : Shape) : Type 0 where
  pub stands : MayStand instr limits.gives_int
  pub locals : LocalsStep instr old.locals new.locals
  pub stack : StackSteps instr old.stack new.stack
  pub room : length new.stack ≤ limits.max_stack

-- each local is the same, or nothing is known of it
abbrev pub IsKnownLess : List Bool → List Bool → Type 0
IsKnownLess [] [] = Unit {0}
IsKnownLess (x ∷ xs) (y ∷ ys) = ((x ≡ y) ⊎ (x ≡ false)) × IsKnownLess xs ys
IsKnownLess [] (y ∷ ys) = ⊥
IsKnownLess (x ∷ xs) [] = ⊥

-- a shape that stands where one is expected: the same stack, and no more known of the locals (4.10.1.2)
pub record IsWeaker (weaker shape : Shape) : Type 0 where
  pub stack : weaker.stack ≡ shape.stack
  pub locals : IsKnownLess weaker.locals shape.locals

-- the shapes at the pcs that have one
abbrev pub Shapes : Type 0
Shapes = ℕ → Option Shape

-- the pc has a shape that stands where `shape` is expected
abbrev pub IsLed : Shapes → Shape → ℕ → Type 0
IsLed shapes shape pc = (weaker : Shape) × (shapes pc ≡ Some weaker) × IsWeaker weaker shape

-- the instruction at a pc steps from this shape to shapes that stand at each pc that may be next
pub record Flows (code : Places) (limits : Limits) (shapes : Shapes) (pc : ℕ) (shape : Shape) : Type 0 where
  pub instr : ThinInstr
  pub next : ℕ
  pub after : Shape
  pub is : instr_at code pc ≡ Some (instr, next)
  pub steps : Steps limits instr shape after
  pub falls : falls_through instr ≡ true → IsLed shapes after next
  pub jumps : (target : ℕ) → target_of instr ≡ Some target → IsLed shapes after target

-- a shape that fits the limits, at an instruction
pub record Fits (code : Places) (limits : Limits) (pc : ℕ) (shape : Shape) : Type 0 where
  pub start : IsStart code pc
  pub stack : length shape.stack ≤ limits.max_stack
  pub locals : length shape.locals ≡ limits.max_locals

-- the shape at the entry: an int in the locals of the parameters, no more known, and nothing on the stack
abbrev pub entry_locals : ℕ → ℕ → List Bool
entry_locals params max_locals = replicate params true ++ replicate (max_locals - params) false

-- these shapes meet the rules: the code's end has none, since no instruction begins there
pub record MeetsRules (code : Places) (limits : Limits) (shapes : Shapes) : Type 0 where
  pub entry : (shape : Shape) × (shapes 0 ≡ Some shape) × (shape.locals ≡ entry_locals limits.params limits.max_locals)
      × (shape.stack ≡ [])
  pub fits : (pc : ℕ) (shape : Shape) → shapes pc ≡ Some shape → Fits code limits pc shape
  pub flows : (pc : ℕ) (shape : Shape) → shapes pc ≡ Some shape → Flows code limits shapes pc shape

-- bytes that are thin code within these limits
pub record IsThin (code : Places) (limits : Limits) : Type 0 where
  pub instrs : HasInstrs code
  pub params : limits.params ≤ limits.max_locals
  pub shapes : Shapes
  pub rules : MeetsRules code limits shapes

-- bytes that are thin code, of a method with so many parameters
abbrev pub ThinCode : Places → ℕ → Bool → ℕ → ℕ → Type 0
ThinCode code params gives_int max_stack max_locals =
    IsThin code (record { params = params; gives_int = gives_int; max_stack = max_stack; max_locals = max_locals })
