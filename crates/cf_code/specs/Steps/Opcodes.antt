-- Serves the jumps: the opcode of a jump, whatever its target.
use Rattle.std.specs.Prelude.{ℕ}
use Rattle.cf_code.specs.Jumps.{zero_opcode, ints_opcode, references_opcode, null_opcode}
use Rattle.cf_code.specs.declared.jump.Jump.{Jump}
use Rattle.cf_code.specs.declared.jump.Jump.TheVariants.{IfZero, IfInts, IfReferences, IfNull, Goto, GotoW, Jsr, JsrW}

abbrev pub jump_opcode : Jump → ℕ
jump_opcode (IfZero condition target) = zero_opcode condition
jump_opcode (IfInts condition target) = ints_opcode condition
jump_opcode (IfReferences equality target) = references_opcode equality
jump_opcode (IfNull equality target) = null_opcode equality
jump_opcode (Goto target) = 167
jump_opcode (Jsr target) = 168
jump_opcode (GotoW target) = 200
jump_opcode (JsrW target) = 201
