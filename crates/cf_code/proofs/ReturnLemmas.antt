-- The returns: read back from their opcodes, which stand alone.
use Rattle.std.proofs.Common.{refl}
use Rattle.cf_code.specs.Returns.{return_opcode}
use Rattle.cf_code.specs.declared.word.Word.TheVariants.{Int}
use Rattle.cf_code.specs.declared.word.Returned.{Returned}
use Rattle.cf_code.specs.declared.word.Returned.TheVariants.{Nothing, Value}
use Rattle.cf_code.specs.declared.instr.Instr.TheVariants.{Return}
use Rattle.cf_code.proofs.OpcodeLemmas.{IsAlone}

pub return_alone : (r : Returned) → IsAlone (return_opcode r) (Return r)
return_alone Nothing = (λ pc. refl, (refl, refl))
return_alone (Value Int) = (λ pc. refl, (refl, refl))
return_alone (Value w) = (λ pc. refl, (refl, refl))
