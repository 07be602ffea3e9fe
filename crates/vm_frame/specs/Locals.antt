-- The local variables (JVM Specification SE 8, 2.6.1) and the instructions on them (6.5). A long stands in the first of its
-- two locals, and the second holds nothing. The list grows where a local past its end is written.
use Rattle.std.specs.Prelude.{ℕ, ℤ, zero, suc, ◌+◌, ◌-◌, ◌+ℤ◌, Bool, false, if◌then◌else◌}
use Rattle.std.specs.Prelude.{List, ◌++◌, length, replicate, slice_get, slice_set, Option, Some, None}
use Rattle.std.specs.Int.{w32, int_wrap}
use Rattle.jv_base.specs.declared.value.Value.{Value}
use Rattle.jv_base.specs.declared.value.Value.TheVariants.{Int, Long, Ref}
use Rattle.cf_code.specs.declared.word.Word.{Word}
use Rattle.cf_code.specs.declared.word.Word.TheVariants as words
use Rattle.cf_code.specs.declared.local.LocalIndex.{LocalIndex}
use Rattle.cf_code.specs.declared.local.LocalIndex.TheVariants.{Short, Byte, Wide}
use Rattle.cf_code.specs.declared.local.Local.{Local}
use Rattle.cf_code.specs.declared.local.Local.TheVariants.{Load, Store, Iinc, IincWide, Ret, RetWide}
use Rattle.vm_frame.specs.declared.effect.FrameEffect.{FrameEffect}
use Rattle.vm_frame.specs.declared.effect.FrameEffect.TheVariants.{Gives, Stores, Changes, Sticks}
use Rattle.vm_frame.specs.Operands.{is_long, int_in, top}

-- what a local holds: past the end of the list nothing
abbrev pub held : Option (Option Value) → Option Value
held None = None
held (Some content) = content

abbrev pub local_at : List (Option Value) → ℕ → Option Value
local_at locals index = held (slice_get locals index)

-- ---- a store

-- how many locals a value takes
abbrev pub width : Value → ℕ
width v = if is_long v then 2 else 1

-- so many locals at least: more than there were hold nothing
abbrev pub with_room : List (Option Value) → ℕ → List (Option Value)
with_room locals count = locals ++ replicate (count - length locals) None

abbrev pub holds_long : Option Value → Bool
holds_long None = false
holds_long (Some v) = is_long v

-- a long that a local was the second of has ended
abbrev pub ended : ℕ → List (Option Value) → List (Option Value)
ended zero locals = locals
ended (suc before) locals = if holds_long (local_at locals before) then slice_set locals before None else locals

-- the value in its local, and nothing in the second local of a long
abbrev pub written : ℕ → Value → List (Option Value) → List (Option Value)
written index v locals =
    let first = slice_set locals index (Some v) in
    if is_long v then slice_set first (index + 1) None else first

-- the locals after a store
abbrev pub stored : List (Option Value) → ℕ → Value → List (Option Value)
stored locals index v = written index v (ended index (with_room locals (index + width v)))

-- ---- the instructions

abbrev pub index_of : LocalIndex → ℕ
index_of (Short n) = n
index_of (Byte n) = n
index_of (Wide n) = n

-- a value of a type; no value is a float or a double
abbrev pub of_type : Word → Option Value → Option Value
of_type words.Int (Some (Int n)) = Some (Int n)
of_type words.Long (Some (Long n)) = Some (Long n)
of_type words.Reference (Some (Ref r)) = Some (Ref r)
of_type type value = None

-- 6.5 iload, lload, aload and their short forms, also behind wide: the value of the local is pushed
abbrev pub load_effect : Option Value → FrameEffect
load_effect None = Sticks
load_effect (Some v) = Gives 0 v

-- 6.5 istore, lstore, astore and their short forms, also behind wide: the value on top is taken into the local
abbrev pub store_effect : ℕ → Option Value → FrameEffect
store_effect index None = Sticks
store_effect index (Some v) = Stores index v

-- 6.5 iinc, also behind wide: the constant is added to the int in the local, and the sum is wrapped to 32 bits
abbrev pub iinc_effect : ℕ → ℤ → Option ℤ → FrameEffect
iinc_effect index by None = Sticks
iinc_effect index by (Some n) = Changes index (Int (int_wrap w32 (n +ℤ by)))

-- ret is not supported
abbrev pub local_effect : Local → List (Option Value) → List Value → FrameEffect
local_effect (Load word index) locals stack = load_effect (of_type word (local_at locals (index_of index)))
local_effect (Store word index) locals stack = store_effect (index_of index) (of_type word (top stack))
local_effect (Iinc index by) locals stack = iinc_effect index by (int_in (local_at locals index))
local_effect (IincWide index by) locals stack = iinc_effect index by (int_in (local_at locals index))
local_effect (Ret index) locals stack = Sticks
local_effect (RetWide index) locals stack = Sticks
