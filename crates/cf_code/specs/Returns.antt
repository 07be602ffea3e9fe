-- The opcodes of returns (JVM Specification SE 8, 6.5).
use Rattle.std.specs.Prelude.{ℕ}
use Rattle.cf_code.specs.declared.word.Word.TheVariants.{Int, Long, Float, Double, Reference}
use Rattle.cf_code.specs.declared.word.Returned.{Returned}
use Rattle.cf_code.specs.declared.word.Returned.TheVariants.{Nothing, Value}

-- ireturn, lreturn, freturn, dreturn, areturn, return
abbrev pub return_opcode : Returned → ℕ
return_opcode (Value Int) = 172
return_opcode (Value Long) = 173
return_opcode (Value Float) = 174
return_opcode (Value Double) = 175
return_opcode (Value Reference) = 176
return_opcode Nothing = 177
