-- What instructions on arrays take from the operand stack (JVM Specification SE 8, 6.5), whose top is the last.
use Rattle.std.specs.Prelude.{ℕ, ℤ, List, Option, Some, None}
use Rattle.jv_base.specs.declared.value.Value.{Value}
use Rattle.vm_frame.specs.Operands.{without, top, second, int_in, reference_in, both}
use Rattle.vm_object.specs.declared.operand.StoreOperands.{StoreOperands}

-- an int on a reference
abbrev pub reference_and_int : List Value → Option (Option ℕ × ℤ)
reference_and_int stack = both (reference_in (second stack)) (int_in (top stack))

-- a value on both
abbrev pub stored_with : Option (Option ℕ × ℤ) → Option Value → Option StoreOperands
stored_with None value = None
stored_with (Some place) None = None
stored_with (Some (r, i)) (Some v) = Some (record { array = r; index = i; value = v })

abbrev pub store_operands : List Value → Option StoreOperands
store_operands stack = stored_with (reference_and_int (without 1 stack)) (top stack)
