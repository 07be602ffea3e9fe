-- The operand stack (2.6.2), whose top is the last.
use Rattle.std.specs.Prelude.{◌-◌, List, length, take, slice_get, Option}

-- what is on top of an operand stack, where there is anything
abbrev pub top : {A : Type 0} → List A → Option A
top stack = slice_get stack (length stack - 1)

-- what is below the top of an operand stack
abbrev pub below : {A : Type 0} → List A → List A
below stack = take (length stack - 1) stack
