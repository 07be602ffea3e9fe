-- What library rows are to do, and the state after it was done.
use Rattle.std.specs.Prelude.{◌+◌, ◌++◌, ◌∷◌, [], ℕ, List, length, Option, Some, is_some, nat_le, if◌then◌else◌}
use Rattle.jv_base.specs.declared.value.Value.{Value}
use Rattle.jv_base.specs.declared.value.Value.TheVariants.{Ref}
use Rattle.vm_world.specs.declared.object.Object.{Object}
use Rattle.vm_world.specs.declared.object.Object.TheVariants.{Text}
use Rattle.vm_world.specs.declared.object.TextKind.TheVariants.{Str}
use Rattle.vm_world.specs.Heap.{text_at, changed}
use Rattle.vm_world.specs.Objects.{with_text}
use Rattle.vm_lib.specs.declared.plan.Effect.{Effect}
use Rattle.vm_lib.specs.declared.plan.Effect.TheVariants.{Gives, Left, Stuck}
use Rattle.vm_lib.specs.declared.plan.Plan.{Plan}
use Rattle.vm_lib.specs.declared.plan.Plan.TheVariants.{Has, Makes, Puts}

-- the effect of what was planned, and the heap after it: the new object stands behind the others, and of a builder its
-- content alone changes
abbrev pub done : List Object → Plan → Effect × List Object
done heap (Has effect) = (effect, heap)
done heap (Makes text) = (Gives (Some (Ref (Some (length heap + 1)))), heap ++ Text Str text ∷ [])
done heap (Puts number text value) =
    ((if is_some (text_at heap number) then Gives value else Stuck), changed heap number (λ object. with_text object text))

-- a new String, unless it would be longer than the bound
abbrev pub made : ℕ → List ℕ → Plan
made bound text = if nat_le (length text) bound then Makes text else Has Left

-- another content of a StringBuilder, unless it would be longer than the bound
abbrev pub filled : ℕ → ℕ → List ℕ → Option Value → Plan
filled bound number text value = if nat_le (length text) bound then Puts number text value else Has Left
