-- The instructions that push a constant (JVM Specification SE 8, 6.5).
use Rattle.std.specs.Prelude.{pos, None}
use Rattle.jv_base.specs.declared.value.Value.TheVariants.{Int, Long, Ref}
use Rattle.cf_code.specs.declared.constant.Constant.{Constant}
use Rattle.cf_code.specs.declared.constant.Constant.TheVariants.{Null, Iconst, Lconst, Fconst, Dconst, Bipush, Sipush, Ldc, LdcW, Ldc2W}
use Rattle.vm_frame.specs.declared.effect.FrameEffect.{FrameEffect}
use Rattle.vm_frame.specs.declared.effect.FrameEffect.TheVariants.{Gives, Sticks, Exceeds}

-- 6.5 aconst_null, iconst_<i>, lconst_<l>, bipush, sipush: the value of a bipush or a sipush has its sign. What ldc pushes
-- stands in the constant pool, and no value is a float or a double.
abbrev pub constant_effect : Constant → FrameEffect
constant_effect Null = Gives 0 (Ref None)
constant_effect (Iconst z) = Gives 0 (Int z)
constant_effect (Lconst n) = Gives 0 (Long (pos n))
constant_effect (Bipush z) = Gives 0 (Int z)
constant_effect (Sipush z) = Gives 0 (Int z)
constant_effect (Fconst n) = Sticks
constant_effect (Dconst n) = Sticks
constant_effect (Ldc n) = Exceeds
constant_effect (LdcW n) = Exceeds
constant_effect (Ldc2W n) = Exceeds
