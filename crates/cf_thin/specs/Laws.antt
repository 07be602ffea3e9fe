-- What holds of the definitions.
use Rattle.std.specs.Prelude.{◌≡◌, ◌<◌, ◌≤◌, ℕ, List, Contains, length, slice_get, Some, IsSome}
use Rattle.std.specs.List.{AllByRecursion}
use Rattle.cf_code.specs.declared.code.Placed.{Placed}
use Rattle.cf_code.specs.Decoding.{IsCode}
use Rattle.cf_thin.specs.declared.instr.ThinInstr.{ThinInstr}
use Rattle.cf_thin.specs.declared.shape.Shape.{Shape}
use Rattle.cf_thin.specs.Instr.{Places, target_of, thin_of, thin_places, instr_at}
use Rattle.cf_thin.specs.ThinCode.{IsWeaker}

-- an instruction of the code whose opcode is at a pc: it ends behind that pc and within the code, and jumps behind that
-- pc
pub record GoesForward (code : Places) (pc : ℕ) (instr : ThinInstr) (next : ℕ) : Type 0 where
  pub ends : pc < next
  pub within : next ≤ length code
  pub jumps : (target : ℕ) → target_of instr ≡ Some target → pc < target

-- each instruction of thin code does
abbrev pub GoForward : Type 0
GoForward =
    (code : Places) (pc : ℕ) (instr : ThinInstr) (next : ℕ) →
    instr_at code pc ≡ Some (instr, next) → GoesForward code pc instr next

-- a shape stands where it is expected itself; and what stands where a second is expected stands where a third is, if the
-- second does
pub record WeakerOrder : Type 0 where
  pub same : (shape : Shape) → IsWeaker shape shape
  pub chained : (first second third : Shape) →
      IsWeaker first second → IsWeaker second third → IsWeaker first third

-- each instruction of code that is of thin code all through stands at its pc, and there is a place for each byte
pub record StandsInPlace (bytes : List ℕ) (code : List Placed) : Type 0 where
  pub places : length (thin_places code) ≡ length bytes
  pub each : (placed : Placed) → Contains code placed → slice_get (thin_places code) placed.pc ≡ Some (thin_of placed.instr)

abbrev pub StandInPlace : Type 0
StandInPlace = (bytes : List ℕ) (code : List Placed) → IsCode bytes code
    → AllByRecursion (λ (placed : Placed). IsSome (thin_of placed.instr)) code → StandsInPlace bytes code
