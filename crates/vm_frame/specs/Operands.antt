-- The values on an operand stack (JVM Specification SE 8, 2.6.2), whose top is the last.
use Rattle.std.specs.Prelude.{ℕ, ℤ, zero, suc, ◌-◌, Bool, true, false, if◌then◌else◌, List, [], ◌∷◌, length, take}
use Rattle.std.specs.Prelude.{slice_get, Option, Some, None}
use Rattle.jv_base.specs.declared.value.Value.{Value}
use Rattle.jv_base.specs.declared.value.Value.TheVariants.{Int, Long, Ref}
use Rattle.vm_frame.specs.declared.operand.Operands.{Operands}
use Rattle.vm_frame.specs.declared.operand.Operands.TheVariants.{NoOperand, OneOperand, TwoOperands}

-- a stack without so many values on top
abbrev pub without : {A : Type 0} → ℕ → List A → List A
without n stack = take (length stack - n) stack

-- the value on top, where there is one
abbrev pub top : {A : Type 0} → List A → Option A
top stack = slice_get stack (length stack - 1)

-- the value under it
abbrev pub second : {A : Type 0} → List A → Option A
second stack = top (without 1 stack)

-- ---- values by their types (2.11.1)

abbrev pub int_in : Option Value → Option ℤ
int_in (Some (Int n)) = Some n
int_in value = None

abbrev pub long_in : Option Value → Option ℤ
long_in (Some (Long n)) = Some n
long_in value = None

-- a reference, null or the number of an object
abbrev pub reference_in : Option Value → Option (Option ℕ)
reference_in (Some (Ref r)) = Some r
reference_in value = None

-- both, where both are there
abbrev pub both : {A B : Type 0} → Option A → Option B → Option (A × B)
both None second = None
both (Some a) None = None
both (Some a) (Some b) = Some (a, b)

-- the two on top, of which the second was pushed last
abbrev pub two_ints : List Value → Option (ℤ × ℤ)
two_ints stack = both (int_in (second stack)) (int_in (top stack))

abbrev pub two_longs : List Value → Option (ℤ × ℤ)
two_longs stack = both (long_in (second stack)) (long_in (top stack))

-- a long under an int
abbrev pub long_and_int : List Value → Option (ℤ × ℤ)
long_and_int stack = both (long_in (second stack)) (int_in (top stack))

abbrev pub two_references : List Value → Option (Option ℕ × Option ℕ)
two_references stack = both (reference_in (second stack)) (reference_in (top stack))

-- ---- values by their words (2.11.1): a long is of category 2 and has two words, which are never parted

abbrev pub is_long : Value → Bool
is_long (Int n) = false
is_long (Long n) = true
is_long (Ref r) = false

abbrev pub one_word : Option Value → Option Operands
one_word None = None
one_word (Some v) = if is_long v then None else Some (OneOperand v)

-- a value of one word with another of one word under it
abbrev pub with_under : Value → Option Value → Option Operands
with_under v None = None
with_under v (Some w) = if is_long w then None else Some (TwoOperands w v)

-- a long, or two values of one word
abbrev pub two_words : Option Value → Option Value → Option Operands
two_words None under = None
two_words (Some v) under = if is_long v then Some (OneOperand v) else with_under v under

-- the values on top that have so many words, 0 to 2; none where there are not so many, or a long would be parted
abbrev pub operands_of : ℕ → List Value → Option Operands
operands_of zero stack = Some NoOperand
operands_of (suc zero) stack = one_word (top stack)
operands_of (suc (suc n)) stack = two_words (top stack) (second stack)

-- the values as a list, the top last
abbrev pub values : Operands → List Value
values NoOperand = []
values (OneOperand v) = v ∷ []
values (TwoOperands w v) = w ∷ v ∷ []
