-- The code of a method as a list of instructions (JVM Specification SE 8, 4.9.1: static constraints on the code array), and
-- the first place where bytes are none.
use Rattle.std.specs.Prelude.{◌≡◌, ◌⊎◌, ℕ, ◌+◌, ◌<◌, ◌≤◌, List, [], ◌∷◌, ◌++◌, length, take, drop, map, Contains}
use Rattle.std.specs.List.{AllByRecursion}
use Rattle.cf_code.specs.declared.code.Placed.{Placed}
use Rattle.cf_code.specs.declared.instr.Instr.{Instr}
use Rattle.cf_code.specs.declared.decoding.End.{End}
use Rattle.cf_code.specs.declared.decoding.End.TheVariants.{Whole, BadOpcode, BadTarget}
use Rattle.cf_code.specs.Code.{code_spelling, AllFit}
use Rattle.cf_code.specs.Instr.{spelling, IsInstr}
use Rattle.cf_code.specs.Sizes.{HasSize}
use Rattle.cf_code.specs.Targets.{targets}

-- ---- code

-- each instruction stands behind the one before, the first at a pc
abbrev pub IsLaid : ℕ → List Placed → Type 0
IsLaid pc [] = Unit {0}
IsLaid pc (placed ∷ rest) = (placed.pc ≡ pc) × IsLaid (pc + length (spelling placed.pc placed.instr)) rest

-- the pcs of instructions
abbrev pub pcs : List Placed → List ℕ
pcs code = map (λ placed. placed.pc) code

-- each target of an instruction is the pc of one
abbrev pub HasTargets : List ℕ → Instr → Type 0
HasTargets starts instr = AllByRecursion (λ target. Contains starts target) (targets instr)

abbrev pub AllHaveTargets : List Placed → Type 0
AllHaveTargets code = AllByRecursion (λ placed. HasTargets (pcs code) placed.instr) code

-- the bytes are these instructions, from pc 0 on, and each target is one of them
pub record IsCode (bytes : List ℕ) (code : List Placed) : Type 0 where
  pub spelled : bytes ≡ code_spelling code
  pub laid : IsLaid 0 code
  pub fit : AllFit code
  pub have_targets : AllHaveTargets code

-- ---- faults

-- from a pc on the bytes fall into instructions, by their sizes alone, at these pcs and up to one where the next would begin
abbrev pub FallsInto : List ℕ → ℕ → List ℕ → ℕ → Type 0
FallsInto bytes pc [] stop = pc ≡ stop
FallsInto bytes pc (start ∷ starts) stop = (start ≡ pc) × ((size : ℕ) × HasSize pc (drop pc bytes) size × FallsInto bytes (pc + size) starts stop)

-- the instructions that the bytes begin with, by their sizes alone: all of the bytes, or as far as there is one
pub record HasStarts (bytes : List ℕ) (starts : List ℕ) (stop : ℕ) : Type 0 where
  pub falls : FallsInto bytes 0 starts stop
  pub within : stop ≤ length bytes
  pub ends : (stop ≡ length bytes) ⊎ ((size : ℕ) → HasSize stop (drop stop bytes) size → ⊥)

-- the bytes at a start are an instruction whose targets are starts
abbrev pub IsGood : List ℕ → List ℕ → ℕ → Type 0
IsGood bytes starts start =
    (size : ℕ) × (instr : Instr) × HasSize start (drop start bytes) size × IsInstr start (take size (drop start bytes)) instr × HasTargets starts instr

-- the first fault is that no instruction begins at a pc: its opcode is above 201, `wide` stands before another
-- instruction than it can, or the instruction passes the end of the bytes
pub record HasBadOpcode (bytes : List ℕ) (pc : ℕ) : Type 0 where
  pub starts : List ℕ
  pub has : HasStarts bytes starts pc
  pub inside : pc < length bytes
  pub good : AllByRecursion (IsGood bytes starts) starts

-- the first fault is in the operands of the instruction at a pc: a target is no start of an instruction, the least key of a
-- table is above its greatest, or keys do not rise
pub record HasBadTarget (bytes : List ℕ) (pc : ℕ) : Type 0 where
  pub starts : List ℕ
  pub stop : ℕ
  pub has : HasStarts bytes starts stop
  pub is_start : Contains starts pc
  pub bad : IsGood bytes starts pc → ⊥
  pub good : (earlier : ℕ) → Contains starts earlier → earlier < pc → IsGood bytes starts earlier

-- ---- the instructions before a fault

-- the bytes begin with these instructions, from pc 0 on, and each target of them is the pc of an instruction that the bytes
-- fall into
pub record BeginsWith (bytes : List ℕ) (code : List Placed) : Type 0 where
  pub starts : List ℕ
  pub stop : ℕ
  pub rest : List ℕ
  pub has : HasStarts bytes starts stop
  pub parts : bytes ≡ code_spelling code ++ rest
  pub laid : IsLaid 0 code
  pub fit : AllFit code
  pub have_targets : AllByRecursion (λ placed. HasTargets starts placed.instr) code

-- behind these instructions the bytes end, or have their first fault
abbrev pub EndsAs : List ℕ → List Placed → End → Type 0
EndsAs bytes code Whole = IsCode bytes code
EndsAs bytes code (BadOpcode pc) = HasBadOpcode bytes pc × (pc ≡ length (code_spelling code))
EndsAs bytes code (BadTarget pc) = HasBadTarget bytes pc × (pc ≡ length (code_spelling code))
