-- Operands of library rows: references to texts.
use Rattle.std.specs.Prelude.{ℕ, List, Option, Some, None, Result, Ok, Err}
use Rattle.jv_base.specs.declared.method.Kind.TheVariants.{Null}
use Rattle.jv_base.specs.declared.value.Value.{Value}
use Rattle.jv_base.specs.declared.value.Value.TheVariants.{Int, Long, Ref}
use Rattle.vm_world.specs.declared.object.Object.{Object}
use Rattle.vm_world.specs.declared.object.Object.TheVariants.{Instance, Array, Text}
use Rattle.vm_world.specs.declared.object.TextKind.TheVariants.{Str, Builder}
use Rattle.vm_world.specs.Heap.{object_at}
use Rattle.vm_lib.specs.declared.plan.Effect.{Effect}
use Rattle.vm_lib.specs.declared.plan.Effect.TheVariants.{Raises, Stuck}
use Rattle.vm_lib.specs.declared.plan.Plan.{Plan}
use Rattle.vm_lib.specs.declared.plan.Plan.TheVariants.{Has}

-- the content of an object that is a String; a row that needs one is stuck at any other
abbrev pub string_in : Option Object → Result (List ℕ) Effect
string_in None = Err Stuck
string_in (Some (Instance class fields)) = Err Stuck
string_in (Some (Array element elements)) = Err Stuck
string_in (Some (Text Str units)) = Ok units
string_in (Some (Text Builder units)) = Err Stuck

-- the content of a reference to a String; at null a row raises null
abbrev pub string_of : List Object → Value → Result (List ℕ) Effect
string_of heap (Int n) = Err Stuck
string_of heap (Long n) = Err Stuck
string_of heap (Ref None) = Err (Raises Null)
string_of heap (Ref (Some number)) = string_in (object_at heap number)

-- the same of a StringBuilder, with its number
abbrev pub builder_in : ℕ → Option Object → Result (ℕ × List ℕ) Effect
builder_in number None = Err Stuck
builder_in number (Some (Instance class fields)) = Err Stuck
builder_in number (Some (Array element elements)) = Err Stuck
builder_in number (Some (Text Str units)) = Err Stuck
builder_in number (Some (Text Builder units)) = Ok (number, units)

abbrev pub builder_of : List Object → Value → Result (ℕ × List ℕ) Effect
builder_of heap (Int n) = Err Stuck
builder_of heap (Long n) = Err Stuck
builder_of heap (Ref None) = Err (Raises Null)
builder_of heap (Ref (Some number)) = builder_in number (object_at heap number)

-- what a row does with an operand, if it is there: with no new text, and with one
abbrev pub on : {A : Type 0} → Result A Effect → (A → Effect) → Effect
on (Ok operand) row = row operand
on (Err effect) row = effect

abbrev pub plan_on : {A : Type 0} → Result A Effect → (A → Plan) → Plan
plan_on (Ok operand) row = row operand
plan_on (Err effect) row = Has effect
