-- The bytes of the instructions that call a method (JVM Specification SE 8, 6.5).
use Rattle.std.specs.Prelude.{ℕ, List, [], ◌∷◌, ◌++◌}
use Rattle.cf_code.specs.Bytes.{two, IsByte, IsTwo}
use Rattle.cf_code.specs.declared.call.Call.{Call}
use Rattle.cf_code.specs.declared.call.Call.TheVariants.{Virtual, Special, Static, Interface, Dynamic}

-- invokevirtual, invokespecial, invokestatic, invokeinterface, invokedynamic
abbrev pub call_spelling : Call → List ℕ
call_spelling (Virtual index) = 182 ∷ two index
call_spelling (Special index) = 183 ∷ two index
call_spelling (Static index) = 184 ∷ two index
call_spelling (Interface index count zero) = 185 ∷ two index ++ count ∷ zero ∷ []
call_spelling (Dynamic index zeros) = 186 ∷ two index ++ two zeros

-- what has a spelling
abbrev pub FitsCall : Call → Type 0
FitsCall (Virtual index) = IsTwo index
FitsCall (Special index) = IsTwo index
FitsCall (Static index) = IsTwo index
FitsCall (Interface index count zero) = IsTwo index × IsByte count × IsByte zero
FitsCall (Dynamic index zeros) = IsTwo index × IsTwo zeros
