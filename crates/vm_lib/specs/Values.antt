-- Numbers as places and units of texts, and what rows give of them.
use Rattle.std.specs.Prelude.{◌%◌, ◌^◌, ◌==◌, ℕ, ℤ, pos, negsuc, Bool, List, Option, Some, None, nat_lt, codes, if◌then◌else◌}
use Rattle.std.specs.Int.{w32, cast_signed, cast_unsigned}
use Rattle.jv_base.specs.declared.value.Value.TheVariants.{Int}
use Rattle.vm_lib.specs.declared.plan.Effect.{Effect}
use Rattle.vm_lib.specs.declared.plan.Effect.TheVariants.{Gives}

-- a number as a place, which is not negative
abbrev pub place_of : ℤ → Option ℕ
place_of (pos n) = Some n
place_of (negsuc n) = None

-- a number as a unit, which is below 65536
abbrev pub unit_of : ℤ → Option ℕ
unit_of (pos n) = if nat_lt n 65536 then Some n else None
unit_of (negsuc n) = None

-- the low 16 bits of an int
abbrev pub low_unit : ℤ → ℕ
low_unit n = cast_unsigned w32 n % 2 ^ 16

-- the text of a boolean: a number other than 0 is true
abbrev pub boolean_text : ℤ → List ℕ
boolean_text n = if cast_unsigned w32 n == 0 then codes "false" else codes "true"

-- an int that is given
abbrev pub gives_int : ℤ → Effect
gives_int n = Gives (Some (Int n))

-- a boolean that is given, as an int
abbrev pub gives_test : Bool → Effect
gives_test answer = gives_int (if answer then pos 1 else pos 0)

-- a length that is given, as an int
abbrev pub gives_length : ℕ → Effect
gives_length n = gives_int (cast_signed w32 n)
