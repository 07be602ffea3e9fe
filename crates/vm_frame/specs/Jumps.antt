-- The jumps and the switches (JVM Specification SE 8, 6.5).
use Rattle.std.specs.Prelude.{ℕ, ℤ, pos, negsuc, ◌-ℤ◌, int_lt, ◌==◌, Bool, true, false, not, if◌then◌else◌}
use Rattle.std.specs.Prelude.{List, slice_get, Option, Some, None}
use Rattle.std.specs.List.{find}
use Rattle.std.specs.Option.{option_map}
use Rattle.std.specs.Ordering.{int_eq}
use Rattle.jv_base.specs.declared.value.Value.{Value}
use Rattle.cf_code.specs.declared.jump.Condition.{Condition}
use Rattle.cf_code.specs.declared.jump.Condition.TheVariants.{Equal, NotEqual, Less, AtLeast, Greater, AtMost}
use Rattle.cf_code.specs.declared.jump.Equality.{Equality}
use Rattle.cf_code.specs.declared.jump.Equality.TheVariants.{Same, Other}
use Rattle.cf_code.specs.declared.jump.Jump.{Jump}
use Rattle.cf_code.specs.declared.jump.Jump.TheVariants.{IfZero, IfInts, IfReferences, IfNull, Goto, GotoW, Jsr, JsrW}
use Rattle.cf_code.specs.declared.switch.Case.{Case}
use Rattle.cf_code.specs.declared.switch.TableSwitch.{TableSwitch}
use Rattle.cf_code.specs.declared.switch.LookupSwitch.{LookupSwitch}
use Rattle.vm_frame.specs.declared.effect.FrameEffect.{FrameEffect}
use Rattle.vm_frame.specs.declared.effect.FrameEffect.TheVariants.{Drops, Jumps, Sticks}
use Rattle.vm_frame.specs.Operands.{top, int_in, reference_in, two_ints, two_references}

-- whether the condition holds of two numbers
abbrev pub holds : Condition → ℤ → ℤ → Bool
holds Equal a b = int_eq a b
holds NotEqual a b = not (int_eq a b)
holds Less a b = int_lt a b
holds AtLeast a b = not (int_lt a b)
holds Greater a b = int_lt b a
holds AtMost a b = not (int_lt b a)

-- whether two references are the same: both null, or the number of one object
abbrev pub same_reference : Option ℕ → Option ℕ → Bool
same_reference None None = true
same_reference None (Some n) = false
same_reference (Some m) None = false
same_reference (Some m) (Some n) = m == n

abbrev pub as_said : Equality → Bool → Bool
as_said Same same = same
as_said Other same = not same

-- so many values are taken; the run goes on at the target where the test succeeds, else at the next instruction
abbrev pub branch : ℕ → ℕ → Bool → FrameEffect
branch taken target test = if test then Jumps taken target else Drops taken

-- 6.5 if<cond>
abbrev pub if_zero : Condition → ℕ → Option ℤ → FrameEffect
if_zero condition target None = Sticks
if_zero condition target (Some a) = branch 1 target (holds condition a (pos 0))

-- 6.5 if_icmp<cond>
abbrev pub if_ints : Condition → ℕ → Option (ℤ × ℤ) → FrameEffect
if_ints condition target None = Sticks
if_ints condition target (Some (a, b)) = branch 2 target (holds condition a b)

-- 6.5 if_acmp<cond>
abbrev pub if_references : Equality → ℕ → Option (Option ℕ × Option ℕ) → FrameEffect
if_references equality target None = Sticks
if_references equality target (Some (a, b)) = branch 2 target (as_said equality (same_reference a b))

-- 6.5 ifnull, ifnonnull
abbrev pub if_null : Equality → ℕ → Option (Option ℕ) → FrameEffect
if_null equality target None = Sticks
if_null equality target (Some a) = branch 1 target (as_said equality (same_reference a None))

-- 6.5 goto, goto_w; jsr and jsr_w are not supported
abbrev pub jump_effect : Jump → List Value → FrameEffect
jump_effect (IfZero condition target) stack = if_zero condition target (int_in (top stack))
jump_effect (IfInts condition target) stack = if_ints condition target (two_ints stack)
jump_effect (IfReferences equality target) stack = if_references equality target (two_references stack)
jump_effect (IfNull equality target) stack = if_null equality target (reference_in (top stack))
jump_effect (Goto target) stack = Jumps 0 target
jump_effect (GotoW target) stack = Jumps 0 target
jump_effect (Jsr target) stack = Sticks
jump_effect (JsrW target) stack = Sticks

-- ---- switches

abbrev pub target_or : ℕ → Option ℕ → ℕ
target_or default None = default
target_or default (Some target) = target

-- the target at an index, which may be outside
abbrev pub target_at : List ℕ → ℤ → Option ℕ
target_at targets (pos index) = slice_get targets index
target_at targets (negsuc n) = None

-- the target of a key among cases
abbrev pub case_target : List Case → ℤ → Option ℕ
case_target cases key = option_map (λ c. c.target) (find (λ c. int_eq c.key key) cases)

-- 6.5 tableswitch: the target at the key less the least one, or the default
abbrev pub table_target : TableSwitch → ℤ → ℕ
table_target switch key = target_or switch.default (target_at switch.targets (key -ℤ switch.low))

-- 6.5 lookupswitch: the target of the key, or the default
abbrev pub lookup_target : LookupSwitch → ℤ → ℕ
lookup_target switch key = target_or switch.default (case_target switch.cases key)

-- an int is taken, and the run goes on at the target of that key
abbrev pub switch_given : (ℤ → ℕ) → Option ℤ → FrameEffect
switch_given target None = Sticks
switch_given target (Some key) = Jumps 1 (target key)

abbrev pub table_effect : TableSwitch → List Value → FrameEffect
table_effect switch stack = switch_given (table_target switch) (int_in (top stack))

abbrev pub lookup_effect : LookupSwitch → List Value → FrameEffect
lookup_effect switch stack = switch_given (lookup_target switch) (int_in (top stack))
