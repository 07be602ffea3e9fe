-- Rows of java.lang.String, in the words of its documentation.
use Rattle.std.specs.Prelude.{◌==◌, ◌++◌, ◌&&◌, ℕ, ℤ, pos, negsuc, Bool, false, List, [], ◌∷◌, length, slice_index, slice_range, Option, Some, None, Result, Ok, Err, nat_lt, nat_le, if◌then◌else◌}
use Rattle.std.specs.Int.{w32, cast_signed}
use Rattle.std.specs.List.{starts_with, ends_with}
use Rattle.std.specs.Str.{bytes_eq}
use Rattle.std.specs.Fmt.{signed_decimal}
use Rattle.jv_base.specs.declared.method.Kind.TheVariants.{StrIndex}
use Rattle.jv_base.specs.declared.value.Value.{Value}
use Rattle.st_text.specs.Order.{compare_of}
use Rattle.vm_world.specs.declared.object.Object.{Object}
use Rattle.vm_lib.specs.declared.plan.Effect.{Effect}
use Rattle.vm_lib.specs.declared.plan.Effect.TheVariants.{Raises, Stuck}
use Rattle.vm_lib.specs.declared.plan.Plan.{Plan}
use Rattle.vm_lib.specs.declared.plan.Plan.TheVariants.{Has}
use Rattle.vm_lib.specs.Operands.{string_of, on, plan_on}
use Rattle.vm_lib.specs.Plans.{made}
use Rattle.vm_lib.specs.Values.{place_of, unit_of, low_unit, boolean_text, gives_int, gives_test, gives_length}
use Rattle.st_text.specs.Text.{place_of as least_place_of}

-- the number of units (`length:()I`)
abbrev pub length_row : List Object → Value → Effect
length_row heap text = on (string_of heap text) (λ text. gives_length (length text))

-- whether there is none (`isEmpty:()Z`)
abbrev pub is_empty_row : List Object → Value → Effect
is_empty_row heap text = on (string_of heap text) (λ text. gives_test (length text == 0))

-- the unit at a place below the length; else strindex is raised
abbrev pub unit_at : List ℕ → Option ℕ → Effect
unit_at text None = Raises StrIndex
unit_at text (Some place) = if nat_lt place (length text) then gives_int (pos (slice_index text place)) else Raises StrIndex

-- (`charAt:(I)C`)
abbrev pub char_at_row : List Object → Value → ℤ → Effect
char_at_row heap text index = on (string_of heap text) (λ text. unit_at text (place_of index))

-- how two texts compare (`compareTo:(String)I`)
abbrev pub compare_row : List Object → Value → Value → Effect
compare_row heap text other =
    on (string_of heap text) (λ text. on (string_of heap other) (λ other. gives_int (compare_of text other)))

-- whether the argument is a String of the same units; null and other objects are not (`equals:(Object)Z`)
abbrev pub is_same : List ℕ → Result (List ℕ) Effect → Bool
is_same text (Ok other) = bytes_eq text other
is_same text (Err effect) = false

abbrev pub equals_row : List Object → Value → Value → Effect
equals_row heap text other = on (string_of heap text) (λ text. gives_test (is_same text (string_of heap other)))

-- whether the argument is a prefix, a suffix (`startsWith:(String)Z`, `endsWith:(String)Z`)
abbrev pub starts_row : List Object → Value → Value → Effect
starts_row heap text other =
    on (string_of heap text) (λ text. on (string_of heap other) (λ other. gives_test (starts_with (λ x y. x == y) text other)))

abbrev pub ends_row : List Object → Value → Value → Effect
ends_row heap text other =
    on (string_of heap text) (λ text. on (string_of heap other) (λ other. gives_test (ends_with (λ x y. x == y) text other)))

-- a place as an int, and -1 for none
abbrev pub index_or_none : Option ℕ → ℤ
index_or_none None = negsuc 0
index_or_none (Some place) = cast_signed w32 place

-- the least place of a unit; the row is stuck at a number that is none (`indexOf:(I)I`)
abbrev pub place_of_unit : List ℕ → Option ℕ → Effect
place_of_unit text None = Stuck
place_of_unit text (Some unit) = gives_int (index_or_none (least_place_of text unit))

abbrev pub index_row : List Object → Value → ℤ → Effect
index_row heap text unit = on (string_of heap text) (λ text. place_of_unit text (unit_of unit))

-- the text with the argument behind it (`concat:(String)`)
abbrev pub concat_row : List Object → ℕ → Value → Value → Plan
concat_row heap bound text other =
    plan_on (string_of heap text) (λ text. plan_on (string_of heap other) (λ other. made bound (text ++ other)))

-- the part between two places, in order and up to the length; else strindex is raised
abbrev pub part_of : ℕ → List ℕ → Option ℕ → Option ℕ → Plan
part_of bound text None to = Has (Raises StrIndex)
part_of bound text (Some from) None = Has (Raises StrIndex)
part_of bound text (Some from) (Some to) =
    if nat_le from to && nat_le to (length text) then made bound (slice_range text from to) else Has (Raises StrIndex)

-- (`substring:(II)`, `substring:(I)`)
abbrev pub substring_row : List Object → ℕ → Value → ℤ → ℤ → Plan
substring_row heap bound text from to = plan_on (string_of heap text) (λ text. part_of bound text (place_of from) (place_of to))

abbrev pub tail_row : List Object → ℕ → Value → ℤ → Plan
tail_row heap bound text from = plan_on (string_of heap text) (λ text. part_of bound text (place_of from) (Some (length text)))

-- the text of a number, a character, a boolean (`valueOf` of (I), (C) and (Z))
abbrev pub int_row : ℕ → ℤ → Plan
int_row bound n = made bound (signed_decimal n)

abbrev pub char_row : ℕ → ℤ → Plan
char_row bound n = made bound (low_unit n ∷ [])

abbrev pub boolean_row : ℕ → ℤ → Plan
boolean_row bound n = made bound (boolean_text n)
