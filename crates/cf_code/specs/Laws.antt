-- What holds of all bytes.
use Rattle.std.specs.Prelude.{◌≡◌, ◌↔◌, Bool, true, ◌⊎◌, ◌<◌, ◌^◌, ℕ, List, ◌++◌, length}
use Rattle.cf_code.specs.declared.code.Placed.{Placed}
use Rattle.cf_code.specs.declared.decoding.End.{End}
use Rattle.cf_code.specs.declared.instr.Instr.{Instr}
use Rattle.cf_code.specs.Instr.{IsInstr}
use Rattle.cf_code.specs.Sizes.{HasSize}
use Rattle.cf_code.specs.Decoding.{IsCode, HasBadOpcode, HasBadTarget, BeginsWith, EndsAs}

-- the bytes of an instruction have its size, whatever follows them
abbrev pub HasItsSize : Type 0
HasItsSize = (pc : ℕ) (bytes rest : List ℕ) (instr : Instr) → IsInstr pc bytes instr → HasSize pc (bytes ++ rest) (length bytes)

-- as many bytes as the code of a method may have (4.7.3) are one list of instructions at most
abbrev pub IsOneCode : Type 0
IsOneCode = (bytes : List ℕ) (code other : List Placed) → length bytes < 2 ^ 16 → IsCode bytes code → IsCode bytes other → code ≡ other

-- bytes with a fault are no code
abbrev pub IsNoCode : Type 0
IsNoCode = (bytes : List ℕ) (pc : ℕ) (code : List Placed) → HasBadOpcode bytes pc ⊎ HasBadTarget bytes pc → IsCode bytes code → ⊥

-- bytes have one fault at most
pub record IsOneFault : Type 0 where
  pub opcode : (bytes : List ℕ) (a b : ℕ) → HasBadOpcode bytes a → HasBadOpcode bytes b → a ≡ b
  pub target : (bytes : List ℕ) (a b : ℕ) → HasBadTarget bytes a → HasBadTarget bytes b → a ≡ b
  pub both : (bytes : List ℕ) (a b : ℕ) → HasBadOpcode bytes a → HasBadTarget bytes b → ⊥

-- as many bytes as that begin with instructions, up to their end or their first fault
abbrev pub IsCodeDecided : Type 0
IsCodeDecided = (bytes : List ℕ) → length bytes < 2 ^ 16 → (code : List Placed) × (end : End) × BeginsWith bytes code × EndsAs bytes code end

-- what bytes begin with is the front of the instructions that stand before their end or their first fault
abbrev pub IsOneBeginning : Type 0
IsOneBeginning = (bytes : List ℕ) → length bytes < 2 ^ 16 → (code : List Placed) (end : End) → BeginsWith bytes code → EndsAs bytes code end
    → (other : List Placed) → BeginsWith bytes other
    → (more : List Placed) × (code ≡ other ++ more)

-- a test of two values tells whether they are the same
abbrev pub TellsSame : {K : Type 0} → (K → K → Bool) → Type 0
TellsSame {K} test = (x y : K) → (test x y ≡ true) ↔ (x ≡ y)
