-- Rows of java.lang.StringBuilder, in the words of its documentation.
use Rattle.std.specs.Prelude.{◌++◌, ℕ, ℤ, List, [], ◌∷◌, length, Some, None, Result, Ok, Err, codes}
use Rattle.std.specs.Fmt.{signed_decimal}
use Rattle.jv_base.specs.declared.value.Value.{Value}
use Rattle.jv_base.specs.declared.value.Value.TheVariants.{Int, Long, Ref}
use Rattle.vm_world.specs.declared.object.Object.{Object}
use Rattle.vm_lib.specs.declared.plan.Effect.{Effect}
use Rattle.vm_lib.specs.declared.plan.Effect.TheVariants.{Stuck}
use Rattle.vm_lib.specs.declared.plan.Plan.{Plan}
use Rattle.vm_lib.specs.declared.plan.Plan.TheVariants.{Puts}
use Rattle.vm_lib.specs.Operands.{string_of, builder_of, on, plan_on}
use Rattle.vm_lib.specs.Plans.{made, filled}
use Rattle.vm_lib.specs.Values.{place_of, low_unit, boolean_text, gives_length}
use Rattle.vm_lib.specs.StringRows.{unit_at}

-- an empty builder, and one of a text (`<init>:()V`, `<init>:(String)V`)
abbrev pub init_row : List Object → Value → Plan
init_row heap builder = plan_on (builder_of heap builder) (λ builder. Puts builder.0 [] None)

abbrev pub init_text_row : List Object → ℕ → Value → Value → Plan
init_text_row heap bound builder text =
    plan_on (builder_of heap builder) (λ builder. plan_on (string_of heap text) (λ text. filled bound builder.0 text None))

-- the builder with a text behind its content; it gives itself
abbrev pub appended : ℕ → Value → ℕ × List ℕ → List ℕ → Plan
appended bound builder found text = filled bound found.0 (found.1 ++ text) (Some builder)

abbrev pub append_row : List Object → ℕ → Value → List ℕ → Plan
append_row heap bound builder text = plan_on (builder_of heap builder) (λ found. appended bound builder found text)

-- the content of a String, or `null` for null
abbrev pub text_or_null : List Object → Value → Result (List ℕ) Effect
text_or_null heap (Int n) = Err Stuck
text_or_null heap (Long n) = Err Stuck
text_or_null heap (Ref None) = Ok (codes "null")
text_or_null heap (Ref (Some number)) = string_of heap (Ref (Some number))

abbrev pub append_text_or_null : List Object → ℕ → Value → ℕ × List ℕ → Value → Plan
append_text_or_null heap bound builder found text =
    plan_on (text_or_null heap text) (λ text. appended bound builder found text)

-- (`append` of (String), (C), (I) and (Z))
abbrev pub append_text_row : List Object → ℕ → Value → Value → Plan
append_text_row heap bound builder text =
    plan_on (builder_of heap builder) (λ found. append_text_or_null heap bound builder found text)

abbrev pub append_char_row : List Object → ℕ → Value → ℤ → Plan
append_char_row heap bound builder n = append_row heap bound builder (low_unit n ∷ [])

abbrev pub append_int_row : List Object → ℕ → Value → ℤ → Plan
append_int_row heap bound builder n = append_row heap bound builder (signed_decimal n)

abbrev pub append_boolean_row : List Object → ℕ → Value → ℤ → Plan
append_boolean_row heap bound builder n = append_row heap bound builder (boolean_text n)

-- a new String of the content (`toString:()`)
abbrev pub to_string_row : List Object → ℕ → Value → Plan
to_string_row heap bound builder = plan_on (builder_of heap builder) (λ builder. made bound builder.1)

-- the number of units, and the unit at a place (`length:()I`, `charAt:(I)C`)
abbrev pub builder_length_row : List Object → Value → Effect
builder_length_row heap builder = on (builder_of heap builder) (λ builder. gives_length (length builder.1))

abbrev pub builder_char_row : List Object → Value → ℤ → Effect
builder_char_row heap builder index = on (builder_of heap builder) (λ builder. unit_at builder.1 (place_of index))
