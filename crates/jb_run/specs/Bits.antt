-- Bits of the encoding: known, or the value of a literal.
use Rattle.std.specs.Prelude.{not, Option, Some, None}
use Rattle.jb_run.specs.declared.gates.Bit.{Bit}
use Rattle.jb_run.specs.declared.gates.Bit.TheVariants.{Known, Of}
use Rattle.jb_run.specs.declared.int_bits.IntBits.{IntBits}
use Rattle.jb_run.specs.declared.frame.Operand.{Operand}
use Rattle.jb_run.specs.declared.frame.Operand.TheVariants.{Int, Null}

-- the opposite bit
abbrev pub opposite_bit : Bit → Bit
opposite_bit (Known value) = Known (not value)
opposite_bit (Of lit) = Of (record lit { negated = not lit.negated })

-- the int of an operand that is one
abbrev pub bits_inside : Option Operand → Option IntBits
bits_inside None = None
bits_inside (Some (Int word)) = Some word
bits_inside (Some Null) = None
