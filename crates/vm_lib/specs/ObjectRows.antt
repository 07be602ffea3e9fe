-- The row of java.lang.Object that gives a value.
use Rattle.std.specs.Prelude.{◌==◌, ℕ, Bool, true, false, Option, Some, None}
use Rattle.jv_base.specs.declared.method.Kind.TheVariants.{Null}
use Rattle.jv_base.specs.declared.value.Value.{Value}
use Rattle.jv_base.specs.declared.value.Value.TheVariants.{Int, Long, Ref}
use Rattle.vm_lib.specs.declared.plan.Effect.{Effect}
use Rattle.vm_lib.specs.declared.plan.Effect.TheVariants.{Raises, Stuck}
use Rattle.vm_lib.specs.Values.{gives_test}

-- whether two references are the same
abbrev pub is_same_object : Option ℕ → Option ℕ → Bool
is_same_object None None = true
is_same_object None (Some n) = false
is_same_object (Some m) None = false
is_same_object (Some m) (Some n) = m == n

-- whether the argument is the receiver (`equals:(Object)Z`)
abbrev pub same_object_row : Value → Value → Effect
same_object_row (Int n) other = Stuck
same_object_row (Long n) other = Stuck
same_object_row (Ref a) (Int n) = Stuck
same_object_row (Ref a) (Long n) = Stuck
same_object_row (Ref None) (Ref b) = Raises Null
same_object_row (Ref (Some m)) (Ref b) = gives_test (is_same_object (Some m) b)
