-- Where an instruction can go (JVM Specification SE 8, 6.5).
use Rattle.std.specs.Prelude.{ℕ, Bool, true, false, List, [], ◌∷◌, map}
use Rattle.cf_code.specs.declared.instr.Instr.{Instr}
use Rattle.cf_code.specs.declared.instr.Instr.TheVariants.{Jump, Table, Lookup, Return, Object, Local}
use Rattle.cf_code.specs.declared.jump.Jump.{Jump as JumpInstr}
use Rattle.cf_code.specs.declared.jump.Jump.TheVariants.{IfZero, IfInts, IfReferences, IfNull, Goto, GotoW, Jsr, JsrW}
use Rattle.cf_code.specs.declared.object.Object.{Object as ObjectInstr}
use Rattle.cf_code.specs.declared.object.Object.TheVariants.{Throw}
use Rattle.cf_code.specs.declared.local.Local.{Local as LocalInstr}
use Rattle.cf_code.specs.declared.local.Local.TheVariants.{Ret, RetWide}

-- the target of a jump
abbrev pub jump_target : JumpInstr → ℕ
jump_target (IfZero condition target) = target
jump_target (IfInts condition target) = target
jump_target (IfReferences equality target) = target
jump_target (IfNull equality target) = target
jump_target (Goto target) = target
jump_target (GotoW target) = target
jump_target (Jsr target) = target
jump_target (JsrW target) = target

-- the targets that an instruction names: that of a jump, and those of a switch, its default first
abbrev pub targets : Instr → List ℕ
targets (Jump j) = jump_target j ∷ []
targets (Table s) = s.default ∷ s.targets
targets (Lookup s) = s.default ∷ map (λ c. c.target) s.cases
targets _ = []

-- whether a jump can also go on to the next instruction
abbrev pub jump_goes_on : JumpInstr → Bool
jump_goes_on (IfZero condition target) = true
jump_goes_on (IfInts condition target) = true
jump_goes_on (IfReferences equality target) = true
jump_goes_on (IfNull equality target) = true
jump_goes_on (Goto target) = false
jump_goes_on (GotoW target) = false
jump_goes_on (Jsr target) = false
jump_goes_on (JsrW target) = false

abbrev pub local_goes_on : LocalInstr → Bool
local_goes_on (Ret n) = false
local_goes_on (RetWide n) = false
local_goes_on _ = true

abbrev pub object_goes_on : ObjectInstr → Bool
object_goes_on Throw = false
object_goes_on _ = true

-- whether an instruction can go on to the next one: not a goto, a jsr or a ret, a switch, a return or a throw
abbrev pub goes_on : Instr → Bool
goes_on (Jump j) = jump_goes_on j
goes_on (Table s) = false
goes_on (Lookup s) = false
goes_on (Return r) = false
goes_on (Object o) = object_goes_on o
goes_on (Local l) = local_goes_on l
goes_on _ = true
